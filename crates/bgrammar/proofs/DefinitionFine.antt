-- The reader of definitions reads on from what it has, and can be ended from wherever it stops.
use Rattle.std.proofs.Common.{◌≡◌, List, [], ◌∷◌, Bool, true, false, ap, ◌∙◌, refl, inl, inr}
use Rattle.blang.specs.declared.token.Token.{Token}
use Rattle.blang.specs.declared.token.Token.TheVariants as token
use Rattle.blang.specs.declared.token.Placed.{Placed}
use Rattle.blang.specs.Trees.{mark, Identifier, Number, Character, Empty, Ival, Ival_constant, Ival_text, Ival_name, Definition, Simple, Vector, Function}
use Rattle.bgrammar.specs.Reading.{Got, ◌>>=◌, first, expect}
use Rattle.bgrammar.specs.ExpressionReader.{is_close_paren, is_close_bracket}
use Rattle.bgrammar.specs.Commas.{list_reader}
use Rattle.bgrammar.specs.StatementReader.{is_semicolon, name, size, statement}
use Rattle.blang.specs.declared.limits.TheConstants.{MAX_NESTING}
use Rattle.bgrammar.specs.Fitting.{values_words}
use Rattle.bgrammar.specs.DefinitionReader.{ival, valued, vector, function_body, function, after_name_at, after_name, definition}
use Rattle.bgrammar.proofs.Fine.{Near, Any, Fine, Start, bind_fine, shift, stuck, same, got_fine, map_fine, expect_then, expect_start, closed_fine}
use Rattle.bgrammar.proofs.ExpressionFine.{one}
use Rattle.bgrammar.proofs.ExpressionFine as E
use Rattle.bgrammar.proofs.CommaLaws.{list_fine}
use Rattle.bgrammar.proofs.StatementFine.{Closer, closing, at_closers, safer, name_fine, size_fine_at, statement_fine}

ival_fine_at : (before : List Ival) (t : Token) (ts : List Placed) → first ts ≡ t → Fine E.Closer (ival before) ts
ival_fine_at before (token.Number n) (t ∷ ts) e = shift E.closing (ival before) (λ y. Got (Ival_constant (Number n)) y) t (λ y. rw e refl) ts (got_fine E.closing (Ival_constant (Number n)) ts)
ival_fine_at before (token.Number n) [] e = cc
ival_fine_at before (token.Character n) (t ∷ ts) e = shift E.closing (ival before) (λ y. Got (Ival_constant (Character n)) y) t (λ y. rw e refl) ts (got_fine E.closing (Ival_constant (Character n)) ts)
ival_fine_at before (token.Character n) [] e = cc
ival_fine_at before (token.String s) (t ∷ ts) e = shift E.closing (ival before) (λ y. Got (Ival_text s.items (values_words before)) y) t (λ y. rw e refl) ts (got_fine E.closing (Ival_text s.items (values_words before)) ts)
ival_fine_at before (token.String s) [] e = cc
ival_fine_at before (token.Name x) (t ∷ ts) e = shift E.closing (ival before) (λ y. Got (Ival_name (record { text = x; line = t.line })) y) t (λ y. rw e refl) ts (got_fine E.closing (Ival_name (record { text = x; line = t.line })) ts)
ival_fine_at before (token.Name x) [] e = cc
ival_fine_at before _ ts e = stuck E.closing (ival before) ts (λ new n. rw (n ∙ e) refl) (record { with_ = one ∷ []; value = Ival_constant (Number 1); done = λ k h. refl; front = λ k h. tt })

pub ival_fine : (before : List Ival) (ts : List Placed) → Fine E.Closer (ival before) ts
ival_fine before ts = ival_fine_at before (first ts) ts refl

valued_start : (made : List Ival → Definition) → Start closing Any (valued made)
valued_start made = record { with_ = mark token.Semicolon ∷ []; value = made []; done = λ k h. refl; front = λ k h. tt }

valued_fine_at : (made : List Ival → Definition) (ts : List Placed) (b : Bool) → is_semicolon (first ts) ≡ b → Fine Closer (valued made) ts
valued_fine_at made [] true h = cc
valued_fine_at made (t ∷ ts) true h = shift closing (valued made) (λ x. Got (made []) x) t (λ x. rw h refl) ts (got_fine closing (made []) ts)
valued_fine_at made ts false h = same closing (valued made) (λ x. list_reader ival x >>= λ values r. expect is_semicolon r >>= λ o. Got (made values)) ts near (valued_start made) (closed_fine closing E.Closer (list_reader ival) is_semicolon token.Semicolon refl refl refl made ts (list_fine ival ival_fine ts))
  where
    near : (new : List Placed) → Near Closer ts new → valued made new ≡ (list_reader ival new >>= λ values r. expect is_semicolon r >>= λ o. Got (made values))
    near new (inl n) = rw (ap is_semicolon n ∙ h) refl
    near new (inr n) = rw (at_closers (λ t. is_semicolon t ≡ false) refl refl (first new) n) refl

valued_fine : (made : List Ival → Definition) (ts : List Placed) → Fine Closer (valued made) ts
valued_fine made ts = valued_fine_at made ts (is_semicolon (first ts)) refl

vector_fine : (w : Identifier) (ts : List Placed) → Fine Closer (vector w) ts
vector_fine w ts = bind_fine closing E.Closer size (λ n r. expect is_close_bracket r >>= λ o. valued (Vector w n)) safer (λ n. expect_start closing E.Closer is_close_bracket token.CloseBracket refl refl (valued (Vector w n)) (valued_start (Vector w n))) ts (size_fine_at (first ts) ts refl) (λ n u r h g. expect_then closing is_close_bracket token.CloseBracket refl refl (valued (Vector w n)) (valued_start (Vector w n)) (valued_fine (Vector w n)) r)

body_start : (w : Identifier) (parameters : List Identifier) → Start closing Any (function_body w parameters)
body_start w parameters = record { with_ = mark token.Semicolon ∷ []; value = Function w parameters Empty; done = λ k h. refl; front = λ k h. tt }

body_fine : (w : Identifier) (parameters : List Identifier) (ts : List Placed) → Fine Closer (function_body w parameters) ts
body_fine w parameters ts = map_fine closing (statement MAX_NESTING 0) (Function w parameters) ts (statement_fine MAX_NESTING 0 ts)

function_start : (w : Identifier) → Start closing Any (function w)
function_start w = record { with_ = mark token.CloseParen ∷ mark token.Semicolon ∷ []; value = Function w [] Empty; done = λ k h. refl; front = λ k h. tt }

function_fine_at : (w : Identifier) (ts : List Placed) (b : Bool) → is_close_paren (first ts) ≡ b → Fine Closer (function w) ts
function_fine_at w [] true h = cc
function_fine_at w (t ∷ ts) true h = shift closing (function w) (function_body w []) t (λ x. rw h refl) ts (body_fine w [] ts)
function_fine_at w ts false h = same closing (function w) (λ x. list_reader (λ before. name) x >>= λ parameters r. expect is_close_paren r >>= λ o. function_body w parameters) ts near (function_start w)
    (bind_fine closing E.Closer (list_reader (λ before. name)) (λ parameters r. expect is_close_paren r >>= λ o. function_body w parameters) safer (λ parameters. expect_start closing E.Closer is_close_paren token.CloseParen refl refl (function_body w parameters) (body_start w parameters)) ts (list_fine (λ before. name) (λ before. name_fine) ts) (λ parameters u r e g. expect_then closing is_close_paren token.CloseParen refl refl (function_body w parameters) (body_start w parameters) (body_fine w parameters) r))
  where
    near : (new : List Placed) → Near Closer ts new → function w new ≡ (list_reader (λ before. name) new >>= λ parameters r. expect is_close_paren r >>= λ o. function_body w parameters)
    near new (inl n) = rw (ap is_close_paren n ∙ h) refl
    near new (inr n) = rw (at_closers (λ t. is_close_paren t ≡ false) refl refl (first new) n) refl

after_start : (Safe : Token → Type 0) → Safe token.Semicolon → (w : Identifier) → Start closing Safe (after_name w)
after_start Safe safe w = record { with_ = mark token.Semicolon ∷ []; value = Simple w []; done = λ k h. refl; front = λ k h. safe }

other : (w : Identifier) (t : Token) → ((ts : List Placed) → after_name_at w t ts ≡ valued (Simple w) ts) → (ts : List Placed) → first ts ≡ t → Fine Closer (after_name w) ts
other w t is ts e = same closing (after_name w) (valued (Simple w)) ts near (after_start Any tt w) (valued_fine (Simple w) ts)
  where
    near : (new : List Placed) → Near Closer ts new → after_name w new ≡ valued (Simple w) new
    near new (inl n) = ap (λ x. after_name_at w x new) (n ∙ e) ∙ is new
    near new (inr n) = at_closers (λ t. after_name_at w t new ≡ valued (Simple w) new) refl refl (first new) n

after_fine_at : (w : Identifier) (t : Token) (ts : List Placed) → first ts ≡ t → Fine Closer (after_name w) ts
after_fine_at w token.OpenBracket [] e = cc
after_fine_at w token.OpenBracket (t ∷ ts) e = shift closing (after_name w) (vector w) t (λ x. ap (λ y. after_name_at w y (t ∷ x)) e) ts (vector_fine w ts)
after_fine_at w token.OpenParen [] e = cc
after_fine_at w token.OpenParen (t ∷ ts) e = shift closing (after_name w) (function w) t (λ x. ap (λ y. after_name_at w y (t ∷ x)) e) ts (function_fine_at w ts (is_close_paren (first ts)) refl)
after_fine_at w t ts e = other w t (λ us. refl) ts e

pub definition_fine : (ts : List Placed) → Fine Closer definition ts
definition_fine ts = bind_fine closing E.Closer name after_name safer (λ w. after_start E.Closer refl w) ts (name_fine ts) (λ w u r h g. after_fine_at w (first r) r refl)
