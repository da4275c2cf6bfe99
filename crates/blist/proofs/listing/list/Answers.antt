use Rattle.std.proofs.Common.{◌≡◌, ◌∙◌, ℕ, List, [], ap, refl, subst}
use Rattle.std.proofs.lemmas.Bool.{both_ways}
use Rattle.std.specs.Borrow.{Bor}
use Rattle.std.specs.Prelude.{Option, option_map}
use Rattle.blang.specs.declared.code.Definition.{Definition}
use Rattle.blist.specs.Listings.{list_text, listed, stopped, unnamed, wanted}
use Rattle.blang.specs.Reports.{Reported}
use Rattle.btools.specs.Origins.{origin_shown}
use Rattle.btools.specs.declared.program.ProgramFault.TheVariants.{Memory}
use Rattle.btools.proofs.Refused.{no_memory}
use Rattle.blist.proofs.listing.list.Goals as goal

pub returns-in-Err-clause-lists : goal.returns-in-Err-clause-lists
returns-in-Err-clause-lists g c = stopped (c.in-Err.fault, c.in-Err.ensures.program, c.tell_fault.ensures.tells) refl

pub returns-then-is_none_wanted-clause-lists : goal.returns-then-is_none_wanted-clause-lists
returns-then-is_none_wanted-clause-lists g c =
    unnamed c.in-Ok.program.definitions.items c.in-Ok.program.image c.in-Ok.ensures.program
    ((c.in-Ok.program.names.lines.items, c.in-Ok.ensures.lines), (c.in-Ok.program.names.frames.items, c.in-Ok.ensures.names))
    (subst (λ (ds : List Definition). wanted (option_map (λ n. n.now) c.args.name) ds ≡ []) c.deref.ensures.value (c.is_none_wanted.ensures.0 c.if-is_none_wanted.true))
    c.tell.ensures.told refl

pub returns-in-Ok-listing-clause-lists : goal.returns-in-Ok-listing-clause-lists
returns-in-Ok-listing-clause-lists g c =
    let p = c.in-Ok.program in
    let name : Option (List ℕ) = option_map (λ (n : Bor (List ℕ)). n.now) c.args.name in
    let some : wanted name p.definitions.items ≡ [] → ⊥ = λ none.
    both_ways c.is_none_wanted.result c.if-is_none_wanted.false (c.is_none_wanted.ensures.1 (ap (wanted name) c.deref.ensures.value ∙ none)) in
    listed p.definitions.items p.image p.names.lines.items p.names.frames.items c.in-Ok.ensures.program c.in-Ok.ensures.lines c.in-Ok.ensures.names refl some
    (subst (λ (t : List ℕ). Reported t 0 (g.O.ByteOut.outgoing c.args.out.now) (g.O.ByteOut.outgoing c.tell-in-Ok-listing.new.out) c.tell-in-Ok-listing.result)
    (c.as_slice.ensures ∙ c.in-Ok-listing.ensures ∙ ap (λ (t : List ℕ). list_text p.image t name p.definitions.items p.names.lines.items p.names.frames.items) c.beside.ensures) c.tell-in-Ok-listing.ensures.told)

pub returns-clause-lists : goal.returns-clause-lists
returns-clause-lists g c = stopped (Memory, no_memory (origin_shown c.args.origin) c.args.source.now, (refl, refl)) refl
