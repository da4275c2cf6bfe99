use Rattle.std.proofs.Common.{ℕ, List, Some, slice_index_or, position, sym, ap, ◌∙◌}
use Rattle.bemit.specs.Buffers.{is_of, default_of}
use Rattle.bemit.proofs.BufferLemmas.{kept_at, none_at}
use Rattle.bemit.proofs.buffer.CodeBuffer.default_of.Goals as goal

pub returns-in_err-place : goal.returns-in_err-place
returns-in_err-place c =
    let place = c.default_at.ensures ∙ ap (position (is_of c.args.switch)) c.as_slice.ensures.value in
    let none = none_at c.args.switch c.self.inside.defaults.items (sym place ∙ c.in_err-place.was) in
    c.from_residual.ensures ∙ sym none.0 ∙ ap (λ b. default_of c.args.switch b.defaults) c.self.view_is

pub returns : goal.returns
returns c =
    let place = c.default_at.ensures ∙ ap (position (is_of c.args.switch)) c.as_slice.ensures.value in
    let kept = kept_at c.args.switch c.self.inside.defaults.items c.in_ok-place.place (sym place ∙ c.in_ok-place.was) in
    ap (λ (l : List (ℕ × ℕ)). Some (slice_index_or l c.in_ok-place.place (0, 0)).1) c.deref.ensures.0 ∙ sym (kept.1 (0, 0)) ∙ ap (λ b. default_of c.args.switch b.defaults) c.self.view_is
