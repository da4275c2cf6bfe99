-- The file of a line, by the sums of lines.
use Rattle.std.proofs.Common.{◌≡◌, ◌∙◌, ◌+◌, ◌-◌, ◌<◌, ◌≤◌, ◌⊎◌, ℕ, zero, suc, List, [], ◌∷◌, ◌++◌, Bool, true, false, None, Some, ap, ap₂, append-nil, append_assoc, arith, get_or, inl, inr, length, map, refl, subst, sym, if◌then◌else◌}
use Rattle.std.proofs.Math.Nat.{zero-add}
use Rattle.std.proofs.lemmas.List.{get_or-map, length-map, map-append}
use Rattle.std.proofs.lemmas.Bool.Decides.{nat_tests}
use Rattle.std.proofs.lemmas.List.Recursion.{is_count_by}
use Rattle.std.specs.Prelude.{nat_le, ◌==◌}
use Rattle.bsources.specs.FileLines.{File, Line, NamedText, beyond_first_among, file_in, following, joined, later_shown, line_among, lines_in, own_line_among}
use Rattle.bsources.specs.OwnLines.{HasEnds, IsPlaceOf, LinesLieInTheirFiles, all_lines, ends_from, ends_of, start_of, texts_joined}
use Rattle.bsources.specs.declared.following.LaterFile.{LaterFile}

pub own_line-within : (file : File) (rest : List File) (line : ℕ) → line ≤ file.lines
    → own_line_among file rest line ≡ record { file = file.name; line = line }
own_line-within file [] line h = refl
own_line-within file (next ∷ rest) line h =
    let is : nat_le line file.lines ≡ true = grind (arith, nat_tests) in rw is refl

own_line-past : (file next : File) (rest : List File) (line : ℕ) → file.lines < line → own_line_among file (next ∷ rest) line ≡ own_line_among next rest (line - file.lines)
own_line-past file next rest line h = let no : nat_le line file.lines ≡ false = grind (arith, nat_tests) in rw no refl

-- the ends of files are at or after where they begin
at_least : (before : ℕ) (file : File) (rest : List File) (k : ℕ) → k ≤ length rest → before + file.lines ≤ get_or (ends_from before (file ∷ rest)) k 0
at_least before file rest zero h = omega arith
at_least before file [] (suc k) h = absurd (omega (arith, h))
at_least before file (next ∷ rest) (suc k) h =
    let more = at_least (before + file.lines) next rest k (omega (arith, h)) in
    omega (arith, more)

-- where the file at a place begins, after so many lines
abbrev start_from : (before : ℕ) → List File → (k : ℕ) → ℕ
start_from before files zero = before
start_from before files (suc k) = get_or (ends_from before files) k 0

next_start : (before : ℕ) (file : File) (rest : List File) (k : ℕ) → start_from (before + file.lines) rest k ≡ get_or (ends_from before (file ∷ rest)) k 0
next_start before file rest zero = refl
next_start before file rest (suc k) = refl

-- a line lies in the file at the place that its end tells
module _ (d : File) where
  found : (before : ℕ) (file : File) (rest : List File) (line k : ℕ) → k ≤ length rest → (k ≡ 0) ⊎ (start_from before (file ∷ rest) k < before + line)
      → (k ≡ length rest) ⊎ (before + line ≤ get_or (ends_from before (file ∷ rest)) k 0)
      → own_line_among file rest line ≡ record { file = (get_or (file ∷ rest) k d).name; line = (before + line) - start_from before (file ∷ rest) k }
  found before file [] line zero le low high =
      let same : line ≡ (before + line) - before = omega arith in
      ap (λ (n : ℕ). record { file = file.name; line = n }) same
  found before file [] line (suc k) le low high = absurd (omega (arith, le))
  found before file (next ∷ rest) line zero le low (inl last) = absurd (omega (arith, last))
  found before file (next ∷ rest) line zero le low (inr within) =
      let same : line ≡ (before + line) - before = omega arith in
      own_line-within file (next ∷ rest) line (omega (arith, within)) ∙ ap (λ (n : ℕ). record { file = file.name; line = n }) same
  found before file (next ∷ rest) line (suc k) le (inl is) high = absurd (omega (arith, is))
  found before file (next ∷ rest) line (suc k) le (inr less) high =
      let past = at_least before file (next ∷ rest) k (omega (arith, le)) in
      let more : file.lines < line = omega (arith, past, less) in
      let whole : (before + file.lines) + (line - file.lines) ≡ before + line = omega (arith, more) in
      let start = next_start before file (next ∷ rest) k in
      let rest_of = found (before + file.lines) next rest (line - file.lines) k (omega (arith, le))
      (low_next k (subst (λ n. start_from (before + file.lines) (next ∷ rest) k < n) (sym whole) (subst (λ n. n < before + line) (sym start) less)))
      (high_next high whole) in
      own_line-past file next rest line more ∙ rest_of ∙ ap (λ (n : ℕ). record { file = (get_or (next ∷ rest) k d).name; line = n - start_from (before + file.lines) (next ∷ rest) k }) whole
      ∙ ap (λ (n : ℕ). record { file = (get_or (next ∷ rest) k d).name; line = (before + line) - n }) start
    where
      low_next : (j : ℕ) → start_from (before + file.lines) (next ∷ rest) j < (before + file.lines) + (line - file.lines)
          → (j ≡ 0) ⊎ (start_from (before + file.lines) (next ∷ rest) j < (before + file.lines) + (line - file.lines))
      low_next j h = inr h

      high_next : (suc k ≡ suc (length rest)) ⊎ (before + line ≤ get_or (ends_from (before + file.lines) (next ∷ rest)) k 0) → (before + file.lines) + (line - file.lines) ≡ before + line
          → (k ≡ length rest) ⊎ ((before + file.lines) + (line - file.lines) ≤ get_or (ends_from (before + file.lines) (next ∷ rest)) k 0)
      high_next (inl last) whole = inl (omega (arith, last))
      high_next (inr within) whole = inr (subst (λ n. n ≤ get_or (ends_from (before + file.lines) (next ∷ rest)) k 0) (sym whole) within)

-- the halves of what is looked through
pub end_at : (files : List LaterFile) (k : ℕ) (d : LaterFile) → k < length files → get_or (ends_of files) k 0 ≡ (get_or files k d).end
end_at files k d lt = get_or-map (λ (it : LaterFile). it.end) files k d 0 lt

pub start_at : (files : List LaterFile) (k : ℕ) (d : LaterFile) → 0 < k → k ≤ length files → (get_or files (k - 1) d).end ≡ start_of (ends_of files) k
start_at files zero d some le = absurd (omega (arith, some))
start_at files (suc k) d some le =
    let one : suc k - 1 ≡ k = omega arith in
    rw one (sym (end_at files k d (omega (arith, le))))

sum_next : (a b c : ℕ) → (a + b) + c ≡ a + (b + c)
sum_next a b c = omega arith

pub low_moves : (files : List LaterFile) (line middle : ℕ) (d : LaterFile) → middle < length files → (get_or files middle d).end < line → (middle + 1 ≡ 0) ⊎ (start_of (ends_of files) (middle + 1) < line)
low_moves files line middle d lt past =
    let one : middle + 1 ≡ suc middle = omega arith in
    let end = end_at files middle d lt in
    let less : get_or (ends_of files) middle 0 < line = omega (arith, end, past) in
    inr (subst (λ k. start_of (ends_of files) k < line) (sym one) less)

-- one file more
more_ends : (before : ℕ) (files : List File) (new : File) → ends_from before (files ++ new ∷ []) ≡ ends_from before files ++ (before + all_lines files + new.lines) ∷ []
more_ends before [] new = ap (λ n. (n + new.lines) ∷ []) (omega arith)
more_ends before (file ∷ rest) new =
    ap (λ ends. (before + file.lines) ∷ ends) (more_ends (before + file.lines) rest new ∙ ap (λ n. ends_from (before + file.lines) rest ++ (n + new.lines) ∷ []) (sum_next before file.lines (all_lines rest)))

more_lines : (files : List File) (new : File) → all_lines (files ++ new ∷ []) ≡ all_lines files + new.lines
more_lines [] new = omega arith
more_lines (file ∷ rest) new = ap (λ n. file.lines + n) (more_lines rest new) ∙ sym (sum_next file.lines (all_lines rest) new.lines)

pub pushed : (files all : List LaterFile) (lines : ℕ) (new : LaterFile) → HasEnds files lines → all ≡ files ++ new ∷ [] → new.end ≡ lines + new.file.lines → HasEnds all new.end
pushed files all lines new h same is = subst (λ (x : List LaterFile). HasEnds x new.end) (sym same) (record {
  ends = map-append (λ (it : LaterFile). it.end) files (new ∷ []) ∙ ap₂ (λ ends (n : ℕ). ends ++ n ∷ []) h.ends (is ∙ ap (λ n. n + new.file.lines) (h.all ∙ sym (zero-add _))) ∙ sym (ap (ends_from 0) (map-append later_shown files (new ∷ [])) ∙ more_ends 0 (map later_shown files) (later_shown new));
  all = is ∙ ap (λ n. n + new.file.lines) h.all ∙ sym (ap all_lines (map-append later_shown files (new ∷ [])) ∙ more_lines (map later_shown files) (later_shown new));
})

-- what is told of the place of a line
pub told : (files : List LaterFile) (lines line last place : ℕ) (d : LaterFile) → HasEnds files lines → last + 1 ≡ length files → IsPlaceOf (ends_of files) line last place
    → Some (record { file = (get_or files place d).file.name.now; line = line - start_of (ends_of files) place }) ≡ line_among (map later_shown files) line
told [] lines line last place d h some is = absurd (omega (arith, some))
told (f ∷ fs) lines line last place d h some is =
    let len : length (map later_shown fs) ≡ last = length-map fs later_shown ∙ omega (arith, some) in
    let lies = found (later_shown d) 0 (later_shown f) (map later_shown fs) line place (subst (λ n. place ≤ n) (sym len) is.within) (low is.after) (high len is.upto) in
    let name : (get_or (map later_shown (f ∷ fs)) place (later_shown d)).name ≡ (get_or (f ∷ fs) place d).file.name.now =
    ap (λ (x : File). x.name) (get_or-map later_shown (f ∷ fs) place d (later_shown d) (omega (arith, is.within, some))) in
    ap (λ (x : Line). Some x) (sym (lies ∙ ap₂ (λ file (n : ℕ). record { file = file; line = n }) name (ap₂ (λ (a b : ℕ). a - b) (zero-add line) (starts place))))
  where
    starts : (k : ℕ) → start_from 0 (map later_shown (f ∷ fs)) k ≡ start_of (ends_of (f ∷ fs)) k
    starts zero = refl
    starts (suc k) = ap (λ ends. get_or ends k 0) (sym h.ends)

    low : (place ≡ 0) ⊎ (start_of (ends_of (f ∷ fs)) place < line) → (place ≡ 0) ⊎ (start_from 0 (map later_shown (f ∷ fs)) place < 0 + line)
    low (inl is) = inl is
    low (inr less) = let same = starts place in inr (omega (arith, less, same))

    high : length (map later_shown fs) ≡ last → (place ≡ last) ⊎ (line ≤ get_or (ends_of (f ∷ fs)) place 0)
        → (place ≡ length (map later_shown fs)) ⊎ (0 + line ≤ get_or (ends_from 0 (map later_shown (f ∷ fs))) place 0)
    high len (inl is) = inl (is ∙ sym len)
    high len (inr within) = let same = ap (λ ends. get_or ends place 0) h.ends in inr (omega (arith, within, same))

pub not_beyond : (file : File) (rest : List File) (line : ℕ) → line ≤ file.lines → None ≡ beyond_first_among file rest line
not_beyond file [] line h = refl
not_beyond file (next ∷ rest) line h = let yes : nat_le line file.lines ≡ true = grind (arith, nat_tests) in rw yes refl

-- How lines are counted along texts that are joined.
newlines : List ℕ → ℕ
newlines [] = 0
newlines (b ∷ bs) = if b == 10 then 1 + newlines bs else newlines bs

counted : (text : List ℕ) → lines_in text ≡ newlines text + 1
unfolding newlines
counted text = ap (λ n. n + 1) (sym (is_count_by newlines (λ b. b == 10) refl (λ x xs. refl) text))

newlines-append : (a b : List ℕ) → newlines (a ++ b) ≡ newlines a + newlines b
unfolding newlines
newlines-append [] b = omega arith
newlines-append (x ∷ xs) b = by (x == 10) (newlines-append xs b)
  where
    by : (test : Bool) → newlines (xs ++ b) ≡ newlines xs + newlines b → (if test then 1 + newlines (xs ++ b) else newlines (xs ++ b)) ≡ (if test then 1 + newlines xs else newlines xs) + newlines b
    by true rest = omega (arith, rest)
    by false rest = rest

-- a text, a newline and another text
lines-append : (a b : List ℕ) → lines_in (a ++ 10 ∷ b) ≡ lines_in a + lines_in b
unfolding newlines
lines-append a b =
    let whole = newlines-append a (10 ∷ b) in
    let one : newlines (10 ∷ b) ≡ 1 + newlines b = refl in
    omega (arith, counted (a ++ 10 ∷ b), counted a, counted b, whole, one)

some_lines : (u v text : List ℕ) → text ≡ u ++ v → lines_in u ≤ lines_in text
some_lines u v text is =
    let whole = ap newlines is ∙ newlines-append u v in
    omega (arith, counted u, counted text, whole)

-- a line of the first of some files, or of one after others
of_first : (first : File) (rest : List File) (line : ℕ) → line ≤ first.lines
    → (own_line_among first rest line ≡ record { file = first.name; line = line }) × (beyond_first_among first rest line ≡ None)
of_first first rest line h = (own_line-within first rest line h, sym (not_beyond first rest line h))

-- lines from the first one of a file on
later_line : (file : File) (before : List NamedText) (it : NamedText) (after : List NamedText) (line : ℕ) → 0 < line → line ≤ (file_in it).lines → (lines : ℕ) → lines ≡ file.lines + all_lines (map file_in before) + line
    → own_line_among file (map file_in (before ++ it ∷ after)) lines ≡ record { file = it.name; line = line }
later_line file [] it after line some h lines is =
    let less : lines - file.lines ≡ line = omega (arith, is) in
    own_line-past file (file_in it) (map file_in after) lines (omega (arith, is, some)) ∙ ap (own_line_among (file_in it) (map file_in after)) less ∙ own_line-within (file_in it) (map file_in after) line h
later_line file (next ∷ rest) it after line some h lines is =
    own_line-past file (file_in next) (map file_in (rest ++ it ∷ after)) lines (omega (arith, is, some))
    ∙ later_line (file_in next) rest it after line some h (lines - file.lines) (omega (arith, is))

-- the lines of texts that are joined
all_joined : (first : List ℕ) (rest : List NamedText) → lines_in (joined first (map (λ (it : NamedText). it.text) rest)) ≡ lines_in first + all_lines (map file_in rest)
all_joined first [] = ap lines_in (append-nil first) ∙ omega arith
all_joined first (it ∷ rest) =
    ap lines_in (sym (append_assoc first (10 ∷ it.text) (following (map (λ (it : NamedText). it.text) rest)))) ∙ all_joined (first ++ 10 ∷ it.text) rest
    ∙ ap (λ n. n + all_lines (map file_in rest)) (lines-append first it.text) ∙ sum_next (lines_in first) (lines_in it.text) (all_lines (map file_in rest))

some_line : (u : List ℕ) → 0 < lines_in u
some_line u = omega arith

beyond_all : (first : File) (rest : List File) (line : ℕ) (at : Line) → (rest ≡ [] → ⊥) → first.lines < line → own_line_among first rest line ≡ at → beyond_first_among first rest line ≡ Some at
beyond_all first [] line at some h is = absurd (some refl)
beyond_all first (next ∷ rest) line at some h is =
    let no : nat_le line first.lines ≡ false = grind (arith, nat_tests) in
    rw no (ap (λ (x : Line). Some x) (sym (own_line-past first next rest line h) ∙ is))

abbrev texts_of : List NamedText → List ℕ
texts_of ts = following (map (λ (t : NamedText). t.text) ts)

pub lines_lie : LinesLieInTheirFiles
lines_lie = record {
  first = λ first rest u v is. of_first (file_in first) (map file_in rest) (lines_in u) (some_lines u v first.text is);
  later = λ first before it after u v is.
      let count = lines-append (texts_joined first before) u ∙ ap (λ n. n + lines_in u) (all_joined first.text before) in
      let lies = later_line (file_in first) before it after (lines_in u) (some_line u) (some_lines u v it.text is) (lines_in (texts_joined first before ++ 10 ∷ u)) count in
      (lies, beyond_all (file_in first) (map file_in (before ++ it ∷ after)) _ _ (none before it after) (omega (arith, count, some_line u)) lies);
  whole = λ first before it after u v is. (texts_of after, bytes first before it after u v is);
}
  where
    none : (before : List NamedText) (it : NamedText) (after : List NamedText) → map file_in (before ++ it ∷ after) ≡ [] → ⊥
    none [] it after e = cc
    none (x ∷ xs) it after e = cc

    along : (before : List NamedText) (it : NamedText) (after : List NamedText) → texts_of (before ++ it ∷ after) ≡ texts_of before ++ texts_of (it ∷ after)
    along [] it after = refl
    along (x ∷ xs) it after = ap (λ t. (10 ∷ x.text) ++ t) (along xs it after) ∙ sym (append_assoc (10 ∷ x.text) (texts_of xs) (texts_of (it ∷ after)))

    bytes : (first : NamedText) (before : List NamedText) (it : NamedText) (after : List NamedText) (u v : List ℕ) → it.text ≡ u ++ v
        → texts_joined first (before ++ it ∷ after) ≡ (texts_joined first before ++ 10 ∷ u) ++ (v ++ texts_of after)
    bytes first before it after u v is =
        let rest = texts_of after in
        let text : texts_of (it ∷ after) ≡ (10 ∷ u) ++ (v ++ rest) = ap (λ t. (10 ∷ t) ++ rest) is ∙ ap (λ t. 10 ∷ t) (append_assoc u v rest) in
        ap (λ t. first.text ++ t) (along before it after ∙ ap (λ t. texts_of before ++ t) text)
        ∙ sym (append_assoc first.text (texts_of before) ((10 ∷ u) ++ (v ++ rest)))
        ∙ sym (append_assoc (texts_joined first before) (10 ∷ u) (v ++ rest))
