pub mod CheckFacts
pub mod EngineRows
pub mod FurtherRows
pub mod PairRows
pub mod RuleFacts
pub mod UnitFacts
