use Rattle.std.proofs.Common.{refl}
use Rattle.std.proofs.lemmas.Result.{IfOk-weaker}
use Rattle.blint.proofs.matched.said_by.Goals as goal

pub returns : goal.returns
returns c =
    let t = c.args.tokens.now in
    IfOk-weaker c.notices_of.result _ _
    (λ notices h. record {
      tree = record { text = t.text; lexemes = t.lexemes; places = t.places; rows = c.args.rows };
      table = record { steps = c.args.steps; claims = c.args.claims; rules = c.args.rules };
      of_text = refl;
      of_lexemes = refl;
      of_places = refl;
      of_rows = refl;
      by_steps = refl;
      by_claims = refl;
      by_rules = refl;
      all = h;
    })
    c.notices_of.ensures
