-- Promise: what is told of what is due of a source, each finding by its place and its code.
use Rattle.std.specs.Prelude.{ℕ, ◌≤◌, Bool, IsTrue, List, [], ◌∷◌, codes, length, take}
use Rattle.std.specs.List.{list_any}
use Rattle.bword.specs.declared.edition.Edition.{Edition}
use Rattle.bword.specs.Words.{same_name}
use Rattle.blang.specs.Trees.{Definition}
use Rattle.blang.specs.WellFormed.{AllFormed}
use Rattle.bsources.specs.Files.{Files}
use Rattle.blint.specs.declared.cautions.Caution.{Caution}
use Rattle.blint.specs.declared.warnings.Slip.{Slip}
use Rattle.blint.specs.declared.warnings.Slip.TheVariants as slip
use Rattle.blint.specs.declared.warnings.Warning.{Warning}
use Rattle.blint.specs.declared.warnings.Warning.TheVariants as warning
use Rattle.blint.specs.SourceTokens.{IsSource}
use Rattle.blint.specs.Warns.{AreNoticesIn, IsDueBy, TellsDue}
use Rattle.bmatch.specs.declared.noticing.Notice.{Notice}

-- by which code each slip is known
abbrev pub slip_code : Slip → List ℕ
slip_code slip.VectorAssigned = codes "ix"
slip_code slip.VectorCopied = codes "ix"
slip_code slip.SameNow = codes "us"
slip_code slip.CopiedLate = codes "us"
slip_code slip.OtherExtreme = codes "tr"
slip_code slip.LeastFromZero = codes "us"
slip_code slip.LargestFromZero = codes "us"
slip_code slip.NotKept = codes "us"
slip_code slip.SameTwice = codes "ix"
slip_code slip.NotSetBack = codes "lp"
slip_code slip.AfterLast = codes "ix"
slip_code slip.NotEnded = codes "st"
slip_code slip.ComparedAlone = codes "st"
slip_code slip.NewlineNext = codes "en"
slip_code slip.PopsAbove = codes "ix"
slip_code slip.WordForAddress = codes "ar"
slip_code slip.CharacterLost = codes "en"
slip_code slip.CharacterForString = codes "st"
slip_code slip.NumberForString = codes "st"
slip_code slip.FormKind = codes "ar"
slip_code slip.CallsAway = codes "lp"
slip_code slip.StepsPast = codes "lp"
slip_code slip.NeverAgain = codes "lp"
slip_code slip.LastTurnOnly = codes "lp"
slip_code slip.DividesByZero = codes "di"
slip_code slip.CountsFirst = codes "lp"
slip_code slip.ValueKept = codes "ar"
slip_code slip.VectorReckoned = codes "ix"
slip_code slip.CountsEnd = codes "en"
slip_code slip.SameAsked = codes "lp"
slip_code slip.WordStored = codes "st"
slip_code slip.RemainderBelow = codes "di"
slip_code slip.RoomTooSmall = codes "ix"
slip_code slip.NotFirst = codes "tr"
slip_code slip.ProductOfZero = codes "us"
slip_code slip.BaseOfZero = codes "us"
slip_code slip.ZeroDivisor = codes "di"
slip_code slip.RemainderKept = codes "lp"
slip_code slip.DividedByOne = codes "di"
slip_code slip.SetLater = codes "in"
slip_code slip.ZeroEnd = codes "en"
slip_code slip.CallsPast = codes "lp"
slip_code slip.CharacterIndex = codes "ix"
slip_code slip.HalfStays = codes "lp"
slip_code slip.NextPast = codes "ix"
slip_code slip.EndTaken = codes "en"
slip_code slip.LeavesCountOut = codes "lp"
slip_code slip.BeginsAgain = codes "lp"
slip_code slip.BothEvaluated = codes "di"
slip_code slip.ZeroAfter = codes "lp"
slip_code slip.SharedCounter = codes "lp"
slip_code slip.MovesAddress = codes "no"
slip_code slip.ShiftOfSum = codes "pr"

-- by which code each warning is known
abbrev pub warning_code : Warning → List ℕ
warning_code warning.CommentGoesOn = codes "*/"
warning_code warning.AndAnd = codes "and"
warning_code warning.Power = codes "and"
warning_code warning.OperatorAssigns = codes "op"
warning_code warning.ConditionAssigns = codes "if"
warning_code warning.AssignsComparison = codes "if"
warning_code warning.AssignsCompared = codes "if"
warning_code warning.EmptyIf = codes "em"
warning_code warning.EmptyLoop = codes "em"
warning_code warning.PastVector = codes "ix"
warning_code warning.VectorForWord = codes "ix"
warning_code warning.WordForVector = codes "ix"
warning_code warning.VectorAddress = codes "ix"
warning_code warning.ReturnsVector = codes "ix"
warning_code warning.ReturnsAddress = codes "ix"
warning_code warning.NegativeNumber = codes "sg"
warning_code warning.StringEnd = codes "en"
warning_code warning.InputEnd = codes "en"
warning_code warning.InputZero = codes "en"
warning_code warning.StringForNumber = codes "st"
warning_code warning.StringForCharacter = codes "st"
warning_code warning.StringPut = codes "st"
warning_code warning.StringCompared = codes "st"
warning_code warning.NameAlone = codes "no"
warning_code warning.ComparesAlone = codes "no"
warning_code warning.NoEffect = codes "no"
warning_code warning.Backslash = codes "bs"
warning_code warning.BitsCompared = codes "pr"
warning_code warning.ComparesTwice = codes "pr"
warning_code warning.NotCompared = codes "pr"
warning_code warning.ManyArguments = codes "ar"
warning_code warning.FewArguments = codes "ar"
warning_code warning.LibraryArguments = codes "ar"
warning_code warning.SwappedArguments = codes "ar"
warning_code warning.WrongBase = codes "ar"
warning_code warning.NoReturn = codes "rt"
warning_code warning.NeverUsed = codes "us"
warning_code warning.Unset = codes "in"
warning_code warning.UnsetVector = codes "in"
warning_code warning.HidesExternal = codes "hi"
warning_code warning.HidesLibrary = codes "hi"
warning_code warning.NearMain = codes "ma"
warning_code warning.DefaultLabel = codes "ed"
warning_code warning.WordOutside = codes "ed"
warning_code warning.VectorCalled = codes "ix"
warning_code warning.WordOfString = codes "st"
warning_code warning.CallsItself = codes "lp"
warning_code warning.ChangesNothing = codes "no"
warning_code warning.LoopUnchanged = codes "lp"
warning_code warning.Indented = codes "la"
warning_code warning.Overwritten = codes "us"
warning_code warning.MainParameters = codes "ma"
warning_code warning.StringsAdded = codes "st"
warning_code warning.OrConstant = codes "pr"
warning_code warning.AssignsItself = codes "op"
warning_code warning.PassesOldValue = codes "ar"
warning_code warning.ValueDropped = codes "no"
warning_code warning.EndlessLoop = codes "lp"
warning_code warning.NoMain = codes "ma"
warning_code warning.DanglingElse = codes "la"
warning_code warning.IfsInRow = codes "la"
warning_code warning.ElseOverwrites = codes "la"
warning_code warning.OctalNumber = codes "nu"
warning_code warning.LargeNumber = codes "nu"
warning_code warning.DividesFirst = codes "di"
warning_code warning.ZeroQuotient = codes "di"
warning_code warning.AlwaysTrue = codes "tr"
warning_code warning.NeverTrue = codes "tr"
warning_code warning.LoopPastVector = codes "ix"
warning_code warning.CountPastVector = codes "ix"
warning_code warning.CountsAway = codes "lp"
warning_code warning.InnerOnce = codes "lp"
warning_code warning.BeginsAnew = codes "lp"
warning_code warning.InputEndless = codes "en"
warning_code warning.SameArguments = codes "lp"
warning_code warning.ResultDropped = codes "no"
warning_code warning.StringAdded = codes "st"
warning_code warning.StoredBack = codes "us"
warning_code warning.NotReached = codes "no"
warning_code warning.DigitForCharacter = codes "en"
warning_code warning.FallsIntoCase = codes "sw"
warning_code warning.FormValues = codes "ar"
warning_code warning.TwoIndices = codes "ix"
warning_code warning.AssignsNot = codes "tr"
warning_code warning.ProductTooLarge = codes "nu"
warning_code warning.NumberPut = codes "st"
warning_code warning.AddressesCompared = codes "st"
warning_code warning.ValueForAddress = codes "ar"
warning_code warning.CharacterCounted = codes "en"
warning_code warning.SlashEscape = codes "es"
warning_code warning.WordCalled = codes "hi"
warning_code warning.SomeReturn = codes "rt"
warning_code warning.QuotientCut = codes "di"
warning_code warning.FirstTurnOnly = codes "no"
warning_code warning.StringMoved = codes "st"
warning_code warning.TestedBefore = codes "no"
warning_code warning.OnlyInIf = codes "lp"
warning_code warning.IndexKept = codes "ix"
warning_code warning.OwnResultDropped = codes "no"
warning_code (warning.Slip s) = slip_code s

-- codes that rules alone give
abbrev pub rule_codes : List (List ℕ)
rule_codes =
    codes "and" ∷ codes "op" ∷ codes "if" ∷ codes "em" ∷ codes "sg" ∷ codes "en" ∷ codes "st" ∷ codes "no" ∷ codes "bs"
    ∷ codes "pr" ∷ codes "rt" ∷ codes "us" ∷ codes "ed" ∷ codes "tr" ∷ codes "di" ∷ codes "es" ∷ codes "sw" ∷ codes "ix"
    ∷ codes "lp" ∷ []

abbrev pub is_rule_code : List ℕ → Bool
is_rule_code code = list_any (same_name code) rule_codes

abbrev pub IsOfRules : List ℕ → Type 0
IsOfRules code = IsTrue (is_rule_code code)

-- What is due of a source that is definitions is told, and nothing else with the codes of rules alone: each finding
-- with the bytes before it, and its code.
abbrev pub TellsWarnings : Edition → Files → List ℕ → (told : List (List ℕ × List ℕ)) → Type 0
TellsWarnings edition files source told =
    (ds : List Definition) → AllFormed ds → IsSource edition source ds
    → (notices : List Notice) × AreNoticesIn edition source ds notices
    × TellsDue (λ at. take at.start source) warning_code (λ before at. length before ≤ at.start) IsOfRules
    (IsDueBy edition files source notices) told

-- Inner words: the bytes before a caution, and its code
abbrev pub caution_at : (source : List ℕ) → Caution → List ℕ × List ℕ
caution_at source c = (take c.place.start source, warning_code c.warning)
