-- What a pass made of a definition is what its tree has.
use Rattle.std.proofs.Common.{◌≡◌, Bool, List, [], ◌∷◌, ◌++◌, length, true, false, Option, Some, None, refl, sym, ap, ◌∙◌, subst, arith, length-append, lt-ltb}
use Rattle.std.specs.Prelude.{nat_lt}
use Rattle.blang.specs.declared.token.Diagnostic.{Diagnostic}
use Rattle.blang.specs.declared.token.Token.{Token}
use Rattle.blang.specs.declared.token.Token.TheVariants as token
use Rattle.blang.specs.declared.code.Definition as coded
use Rattle.blang.specs.Code.{code_of, fault_of, or_too_large}
use Rattle.blang.specs.declared.token.Letters.TheVariants as letters
use Rattle.std.specs.List.{list_any}
use Rattle.bword.specs.Words.{same_name}
use Rattle.blang.specs.Compiles.{Defined}
use Rattle.blang.specs.Trees.{Definition, Simple, Vector, Function}
use Rattle.blang.specs.WellFormed.{IsFormed}
use Rattle.bgrammar.specs.DefinitionReader.{definition}
use Rattle.bgrammar.specs.Reading.{Got}
use Rattle.blang.specs.Scan.{identifier_of, name_fault, scan}
use Rattle.bgrammar.proofs.LawProofs.{definition_read}
use Rattle.bemit.specs.Drafts.{Draft, Going, fault_in, draft_resolved, fresh, started}
use Rattle.bemit.specs.Effects.{code_with, definition_done}
use Rattle.bemit.specs.Views.{IfMade}
use Rattle.bcodegen.proofs.Definitions.{one_pass}
use Rattle.bcodegen.specs.Laws.{instructions_in}
use Rattle.bparse.specs.Locals.{is_function, locals_in, locals_of}
use Rattle.bparse.specs.Steps.{is_end}
use Rattle.bread.specs.Definitions.{TookDefinition}
use Rattle.bread.specs.Headers.{Heads}
use Rattle.bparse.specs.Sizes.{IsSmall}
use Rattle.bread.specs.Tokens.{Tokens, tokens_of, Moves}
use Rattle.bread.specs.declared.header.DefinitionHead.{DefinitionHead}
use Rattle.bparse.proofs.CleanLaws.{clean_small}

-- a definition without a fault begins as one after no others
pub started_fresh : (names : Defined) (d : Definition) → fault_of names d ≡ None → started names (identifier_of d) ≡ fresh
started_fresh names d h = go (list_any (same_name (identifier_of d).text) names) refl
  where
    go : (b : Bool) → list_any (same_name (identifier_of d).text) names ≡ b → started names (identifier_of d) ≡ fresh
    go false q = rw q refl
    go true q =
        let f = name_fault letters.Redeclared (identifier_of d) in
        let scan_is : scan names d ≡ Some f = rw q refl in
        let bad : Some f ≡ None = sym (ap (λ o. or_too_large o (identifier_of d).line (code_of d)) scan_is) ∙ h in
        cc

pub end_of : (t : Token) → is_end t ≡ true → t ≡ token.End
end_of token.End e = refl
end_of _ e = cc

pub not_end : (t : Token) → is_end t ≡ false → t ≡ token.End → ⊥
not_end t e h = let bad : true ≡ false = sym (ap is_end h) ∙ e in cc

some_more : {A : Type 0} (xs : List A) (y : A) (ys : List A) → nat_lt 0 (length (xs ++ y ∷ ys)) ≡ true
some_more xs y ys = lt-ltb 0 (length (xs ++ y ∷ ys)) (omega (arith, length-append xs (y ∷ ys)))

-- a function has instructions, and no external has one
has_code : (d : Definition) → nat_lt 0 (length (instructions_in (code_of d))) ≡ is_function d
has_code (Simple w values) = refl
has_code (Vector w size values) = refl
has_code (Function w parameters body) = some_more _ _ _

-- the definition of a draft, and how it begins
pub record Drafted (names : Defined) (tree : Definition) (header : DefinitionHead) (draft : Draft) : Type 0 where
  pub formed : IsFormed tree
  pub made : draft ≡ definition_done tree (started names (identifier_of tree))
  pub heads : Heads header tree

pub tree_formed : (mid new : Tokens) (tree : Definition) → Moves mid new (λ u v. definition u ≡ Got tree v) → IsFormed tree
tree_formed mid new tree m = (definition_read (tokens_of mid (m.taken ++ [])) (tokens_of new []) tree (m.come [] (λ over. refl))).1

pub drafted : (names : Defined) (mid new : Tokens) (header : DefinitionHead) (draft : Draft) → (t : TookDefinition names mid header new draft) → Drafted names t.tree header draft
drafted names mid new header draft t = record { formed = tree_formed mid new t.tree t.moves; made = t.made; heads = t.heads }

module _ (names : Defined) (tree : Definition) (header : DefinitionHead) (draft : Draft) (d : Drafted names tree header draft) where
  pub fault_is : fault_in header.line draft ≡ fault_of names tree
  fault_is =
      ap (λ n. fault_in n draft) d.heads.line ∙ ap (fault_in (identifier_of tree).line) d.made ∙ (one_pass names tree d.formed).0

  pub fault_some : (f : Diagnostic) (o : Option Diagnostic) → o ≡ fault_in header.line draft → o ≡ Some f → fault_of names tree ≡ Some f
  fault_some f o e h = sym fault_is ∙ sym e ∙ h

  pub fault_none : (o : Option Diagnostic) → o ≡ fault_in header.line draft → ((f : Diagnostic) → o ≡ Some f → ⊥) → fault_of names tree ≡ None
  fault_none o e h = go o refl
    where
      go : (x : Option Diagnostic) → o ≡ x → fault_of names tree ≡ None
      go None k = sym fault_is ∙ sym e ∙ k
      go (Some f) k = absurd (h f k)

  pub viewed : (view : coded.Definition) (after : Draft) → fault_of names tree ≡ None → after ≡ draft_resolved draft
      → IfMade after (λ s m. (t : Definition) → Heads header t → IsSmall t → view ≡ code_with t s.frame m) → view ≡ code_of tree
  viewed view after clean same v =
      let p = (one_pass names tree d.formed).1 clean in
      let going : after ≡ Going p.0 (Some p.1) = same ∙ ap draft_resolved d.made ∙ p.2 in
      subst (λ x. IfMade x (λ s m. (t : Definition) → Heads header t → IsSmall t → view ≡ code_with t s.frame m)) going v tree d.heads (clean_small names tree clean) ∙ p.3

  pub names_kept : (after : Draft) → fault_of names tree ≡ None → after ≡ draft_resolved draft → locals_in after ≡ Some (locals_of tree)
  names_kept after clean same =
      let p = (one_pass names tree d.formed).1 clean in
      let function_is = ap (λ c. nat_lt 0 (length c)) p.4 ∙ has_code tree in
      ap locals_in (same ∙ ap draft_resolved d.made ∙ p.2)
      ∙ (λ i. Some (record { is_function = function_is i; names = (p.5 i).names; frame = (p.5 i).frame }))
