-- How the lines of a script grow with its bytes.
use Rattle.std.proofs.Common.{◌≡◌, codes, ◌||◌, not, ℕ, zero, suc, ◌+◌, ◌-◌, ◌<◌, ◌≤◌, Bool, true, false, cond, nat_lt, List, [], ◌∷◌, ◌++◌, length, take, drop, Some, None, position, get_or, refl, sym, ◌∙◌, ap, subst, arith, le_trans, length-drop, length-take, length-append, take_all, append_assoc}
use Rattle.std.specs.List.{before_first, position_or_len, onto_first, All}
use Rattle.std.proofs.lemmas.Bool.{cond-true, cond-false, lt-ltb, le-ltb, ltb-true, ltb-false, eqb-true}
use Rattle.std.proofs.lemmas.Bool.Decides.{Decides-eqb}
use Rattle.std.proofs.lemmas.Slice.Eq.{slice_eq-Decides}
use Rattle.std.proofs.lemmas.List.{get_or-take, take_at, append-nil}
use Rattle.std.proofs.lemmas.List.Folds.{list_any-append}
use Rattle.std.proofs.lemmas.List.Splits.{slice_split_none}
use Rattle.std.proofs.lemmas.List.Sums.{fails_before_first, passes_at_first, split_at_first}
use Rattle.std.proofs.lemmas.Option.{cond_some, none-some}
use Rattle.std.proofs.Math.Seq.{take-append-add}
use Rattle.script_lang.specs.Lines.{is_end}
use Rattle.buckd.specs.Lines.{Cuts, IsLine, is_newline, lines_of, but_last, last_of, whole_lines, last_line, has_end, before_end, script_lines}

-- ---- lines so far, and bytes behind them

-- some bytes put before the first of some lines
abbrev pub joined : List ℕ → List (List ℕ) → List (List ℕ)
joined front [] = front ∷ []
joined front (line ∷ lines) = (front ++ line) ∷ lines

-- each script has a line
pub some_line : (bytes : List ℕ) → (line : List ℕ) × (lines : List (List ℕ)) × (lines_of bytes ≡ line ∷ lines)
some_line [] = ([], [], refl)
some_line (byte ∷ bytes) = by_test (is_newline byte) (lines_of bytes)
  where
    by_test : (t : Bool) (lines : List (List ℕ)) → (line : List ℕ) × (more : List (List ℕ)) × (cond t ([] ∷ lines) (onto_first byte lines) ≡ line ∷ more)
    by_test true lines = ([], lines, refl)
    by_test false [] = (byte ∷ [], [], refl)
    by_test false (line ∷ lines) = (byte ∷ line, lines, refl)

joined_nothing : (bytes : List ℕ) → joined [] (lines_of bytes) ≡ lines_of bytes
joined_nothing bytes =
    let front = some_line bytes in
    subst (λ (ls : List (List ℕ)). joined [] ls ≡ ls) (sym front.2) refl

onto_joined : (byte : ℕ) (line : List ℕ) (lines : List (List ℕ)) → onto_first byte (joined line lines) ≡ joined (byte ∷ line) lines
onto_joined byte line [] = refl
onto_joined byte line (next ∷ lines) = refl

-- a byte before some lines, and lines behind them
onto_lines : (byte : ℕ) (line : List ℕ) (lines more : List (List ℕ))
    → onto_first byte (but_last (line ∷ lines) ++ joined (last_of (line ∷ lines)) more)
    ≡ but_last ((byte ∷ line) ∷ lines) ++ joined (last_of ((byte ∷ line) ∷ lines)) more
onto_lines byte line [] more = onto_joined byte line more
onto_lines byte line (next ∷ lines) more = refl

-- the lines of bytes with bytes behind: the last line goes on
pub lines_of_append : (xs ys : List ℕ) → lines_of (xs ++ ys) ≡ whole_lines xs ++ joined (last_line xs) (lines_of ys)
lines_of_append [] ys = sym (joined_nothing ys)
lines_of_append (byte ∷ xs) ys =
    let front = some_line xs in
    by_test (is_newline byte) front.0 front.1 (lines_of xs) (lines_of (xs ++ ys)) front.2 (lines_of_append xs ys)
  where
    by_test : (t : Bool) (line : List ℕ) (lines all longer : List (List ℕ)) → all ≡ line ∷ lines
        → longer ≡ but_last all ++ joined (last_of all) (lines_of ys)
        → cond t ([] ∷ longer) (onto_first byte longer)
        ≡ but_last (cond t ([] ∷ all) (onto_first byte all)) ++ joined (last_of (cond t ([] ∷ all) (onto_first byte all))) (lines_of ys)
    by_test true line lines all longer e h = rw h (rw e refl)
    by_test false line lines all longer e h = rw h (rw e (onto_lines byte line lines (lines_of ys)))

-- all but the last of lines with lines behind
pub but_last_append : (front : List (List ℕ)) (line : List ℕ) (lines : List (List ℕ))
    → but_last (front ++ line ∷ lines) ≡ front ++ but_last (line ∷ lines)
but_last_append [] line lines = refl
but_last_append (first ∷ []) line lines = refl
but_last_append (first ∷ next ∷ front) line lines = ap (λ (ls : List (List ℕ)). first ∷ ls) (but_last_append (next ∷ front) line lines)

pub last_of_append : (front : List (List ℕ)) (line : List ℕ) (lines : List (List ℕ))
    → last_of (front ++ line ∷ lines) ≡ last_of (line ∷ lines)
last_of_append [] line lines = refl
last_of_append (first ∷ []) line lines = refl
last_of_append (first ∷ next ∷ front) line lines = last_of_append (next ∷ front) line lines

-- lines are the whole ones, and the last
pub lines_split : (bytes : List ℕ) → lines_of bytes ≡ whole_lines bytes ++ last_line bytes ∷ []
lines_split bytes = let front = some_line bytes in subst (λ (ls : List (List ℕ)). ls ≡ but_last ls ++ last_of ls ∷ []) (sym front.2) (split front.0 front.1)
  where
    split : (line : List ℕ) (lines : List (List ℕ)) → line ∷ lines ≡ but_last (line ∷ lines) ++ last_of (line ∷ lines) ∷ []
    split line [] = refl
    split line (next ∷ lines) = ap (λ (ls : List (List ℕ)). line ∷ ls) (split next lines)

-- a newline makes the last line whole
newline_lines : (read line : List ℕ) → IsLine line
    → lines_of (read ++ (line ++ 10 ∷ [])) ≡ (whole_lines read ++ (last_line read ++ line) ∷ []) ++ [] ∷ []
newline_lines read line is = lines_of_append read (line ++ 10 ∷ [])
    ∙ ap (λ (ls : List (List ℕ)). whole_lines read ++ joined (last_line read) ls) (lines_of_append line (10 ∷ []) ∙ ap (λ (ls : List (List ℕ)). but_last ls ++ joined (last_of ls) ([] ∷ [] ∷ [])) is.one)
    ∙ ap (λ (l : List ℕ). whole_lines read ++ (last_line read ++ l) ∷ [] ∷ []) (append-nil line)
    ∙ sym (append_assoc (whole_lines read) ((last_line read ++ line) ∷ []) ([] ∷ []))

pub whole_newline : (read line : List ℕ) → IsLine line
    → whole_lines (read ++ (line ++ 10 ∷ [])) ≡ whole_lines read ++ (last_line read ++ line) ∷ []
whole_newline read line is = ap but_last (newline_lines read line is) ∙ but_last_append (whole_lines read ++ (last_line read ++ line) ∷ []) [] []
    ∙ append-nil (whole_lines read ++ (last_line read ++ line) ∷ [])

pub last_newline : (read line : List ℕ) → IsLine line → last_line (read ++ (line ++ 10 ∷ [])) ≡ []
last_newline read line is = ap last_of (newline_lines read line is) ∙ last_of_append (whole_lines read ++ (last_line read ++ line) ∷ []) [] []

-- bytes with no newline go behind the last line
more_lines : (read line : List ℕ) → IsLine line → lines_of (read ++ line) ≡ whole_lines read ++ (last_line read ++ line) ∷ []
more_lines read line is = lines_of_append read line ∙ ap (λ (ls : List (List ℕ)). whole_lines read ++ joined (last_line read) ls) is.one

pub whole_more : (read line : List ℕ) → IsLine line → whole_lines (read ++ line) ≡ whole_lines read
whole_more read line is = ap but_last (more_lines read line is) ∙ but_last_append (whole_lines read) (last_line read ++ line) [] ∙ append-nil (whole_lines read)

pub last_more : (read line : List ℕ) → IsLine line → last_line (read ++ line) ≡ last_line read ++ line
last_more read line is = ap last_of (more_lines read line is) ∙ last_of_append (whole_lines read) (last_line read ++ line) []

-- the whole lines stay, whatever comes behind
pub lines_go_on : (read rest : List ℕ) → (more : List (List ℕ)) × (lines_of (read ++ rest) ≡ whole_lines read ++ more)
lines_go_on read rest = (joined (last_line read) (lines_of rest), lines_of_append read rest)

pub whole_go_on : (read rest : List ℕ) → (more : List (List ℕ)) × (whole_lines (read ++ rest) ≡ whole_lines read ++ more)
whole_go_on read rest =
    by_lines (joined (last_line read) (lines_of rest)) (lines_of_append read rest) (joined_some (last_line read) (lines_of rest))
  where
    joined_some : (front : List ℕ) (lines : List (List ℕ)) → (line : List ℕ) × (more : List (List ℕ)) × (joined front lines ≡ line ∷ more)
    joined_some front [] = (front, [], refl)
    joined_some front (line ∷ lines) = (front ++ line, lines, refl)

    by_lines : (all : List (List ℕ)) → lines_of (read ++ rest) ≡ whole_lines read ++ all
        → (line : List ℕ) × (more : List (List ℕ)) × (all ≡ line ∷ more)
        → (more : List (List ℕ)) × (whole_lines (read ++ rest) ≡ whole_lines read ++ more)
    by_lines all e (line, lines, is) =
        (but_last (line ∷ lines), ap but_last e ∙ ap (λ (ls : List (List ℕ)). but_last (whole_lines read ++ ls)) is ∙ but_last_append (whole_lines read) line lines)

-- ---- cutting a piece at its first newline

-- the bytes before the first newline
line_at : (piece : List ℕ) (at : ℕ) → position is_newline piece ≡ Some at → IsLine (take at piece)
line_at piece at h =
    let found = cond_some _ _ _ h in
    let below : position_or_len is_newline piece < length piece = ltb-true _ _ found.0 in
    record {
      one = subst (λ (n : ℕ). lines_of (take n piece) ≡ take n piece ∷ []) found.1
          (slice_split_none is_newline (before_first is_newline piece) (passed below));
    }
  where
    passed : position_or_len is_newline piece < length piece → All (λ (byte : ℕ). is_newline byte ≡ false) (before_first is_newline piece)
    passed below k d within =
        let small : k < position_or_len is_newline piece = omega (arith, length-take (position_or_len is_newline piece) piece) in
        ap is_newline (get_or-take (position_or_len is_newline piece) piece k d small) ∙ fails_before_first is_newline piece k d small

cut_at : (piece : List ℕ) (at : ℕ) → position is_newline piece ≡ Some at
    → piece ≡ (take at piece ++ 10 ∷ []) ++ drop (at + 1) piece
cut_at piece at h =
    let found = cond_some _ _ _ h in
    let below : position_or_len is_newline piece < length piece = ltb-true _ _ found.0 in
    let ten : get_or piece (position_or_len is_newline piece) 0 ≡ 10 = eqb-true _ _ (passes_at_first is_newline piece 0 below) in
    subst (λ (n : ℕ). piece ≡ (take n piece ++ 10 ∷ []) ++ drop (n + 1) piece) found.1
    (split_at_first is_newline piece 0 below
    ∙ ap (λ (byte : ℕ). before_first is_newline piece ++ (byte ∷ drop (position_or_len is_newline piece + 1) piece)) ten
    ∙ sym (append_assoc (before_first is_newline piece) (10 ∷ []) (drop (position_or_len is_newline piece + 1) piece)))

-- what stands behind a place, as it is sliced
pub behind : (piece : List ℕ) (at : ℕ) → take (length piece - (at + 1)) (drop (at + 1) piece) ≡ drop (at + 1) piece
behind piece at = take_all _ (drop (at + 1) piece) (omega (arith, length-drop (at + 1) piece))

pub cuts_at : (piece rest : List ℕ) (at : ℕ) → position is_newline piece ≡ Some at → rest ≡ drop (at + 1) piece → Cuts piece (take at piece) rest
cuts_at piece rest at h same = record { one = line_at piece at h; parts = cut_at piece at h ∙ ap (λ (bs : List ℕ). (take at piece ++ 10 ∷ []) ++ bs) (sym same) }

pub at_within : (piece : List ℕ) (at : ℕ) → position is_newline piece ≡ Some at → at < length piece
at_within piece at h = let found = cond_some _ _ _ h in subst (λ (n : ℕ). n < length piece) found.1 (ltb-true _ _ found.0)

pub no_newline : (piece : List ℕ) → position is_newline piece ≡ None → IsLine piece
no_newline piece h = record { one = slice_split_none is_newline piece (λ k d below. fails_before_first is_newline piece k d (le_trans below (at_end piece h))) }
  where
    none_false : (t : Bool) (e : ℕ) → cond t (Some e) None ≡ None → t ≡ false
    none_false true e h = absurd (none-some e (sym h))
    none_false false e h = refl

    at_end : (piece : List ℕ) → position is_newline piece ≡ None → length piece ≤ position_or_len is_newline piece
    at_end piece h = ltb-false _ _ (none_false _ _ h)

-- ---- the end of a script

-- the lines before the end, of a first line and the rest
pub before_cons : (line : List ℕ) (lines : List (List ℕ)) → before_end (line ∷ lines) ≡ cond (is_end line) [] (line ∷ before_end lines)
before_cons line lines = by_test (is_end line)
  where
    by_test : (t : Bool) → take (cond (not t) (1 + position_or_len is_end lines) 0) (line ∷ lines) ≡ cond t [] (line ∷ before_end lines)
    by_test true = refl
    by_test false =
        let one : 1 + position_or_len is_end lines ≡ suc (position_or_len is_end lines) = omega arith in
        ap (λ (n : ℕ). take n (line ∷ lines)) one

pub before_end_open : (lines more : List (List ℕ)) → has_end lines ≡ false → before_end (lines ++ more) ≡ lines ++ before_end more
before_end_open [] more h = refl
before_end_open (line ∷ lines) more h = before_cons line (lines ++ more) ∙ by_test (λ e. before_end_open lines more e) (is_end line) h
  where
    by_test : (has_end lines ≡ false → before_end (lines ++ more) ≡ lines ++ before_end more) → (t : Bool) → (t || has_end lines) ≡ false → cond t [] (line ∷ before_end (lines ++ more)) ≡ line ∷ (lines ++ before_end more)
    by_test rest true e = absurd cc
    by_test rest false e = ap (λ (ls : List (List ℕ)). line ∷ ls) (rest e)

pub before_end_closed : (lines more : List (List ℕ)) → has_end lines ≡ true → before_end (lines ++ more) ≡ before_end lines
before_end_closed [] more h = absurd cc
before_end_closed (line ∷ lines) more h = before_cons line (lines ++ more) ∙ by_test (λ e. before_end_closed lines more e) (is_end line) h ∙ sym (before_cons line lines)
  where
    by_test : (has_end lines ≡ true → before_end (lines ++ more) ≡ before_end lines) → (t : Bool) → (t || has_end lines) ≡ true → cond t [] (line ∷ before_end (lines ++ more)) ≡ cond t [] (line ∷ before_end lines)
    by_test rest true e = refl
    by_test rest false e = ap (λ (ls : List (List ℕ)). line ∷ ls) (rest e)

-- lines with no end among them all stand before it
pub before_end_none : (lines : List (List ℕ)) → has_end lines ≡ false → before_end lines ≡ lines
before_end_none lines h = ap before_end (sym (append-nil lines)) ∙ before_end_open lines [] h ∙ append-nil lines

-- whether one of some lines more ends a script
pub has_end_append : (lines more : List (List ℕ)) → has_end (lines ++ more) ≡ (has_end lines || has_end more)
has_end_append lines more = list_any-append is_end lines more

-- the lines before the end stay, whatever comes behind
pub before_end_goes_on : (lines more : List (List ℕ)) → (rest : List (List ℕ)) × (before_end (lines ++ more) ≡ before_end lines ++ rest)
before_end_goes_on lines more = by_test (has_end lines) refl
  where
    by_test : (t : Bool) → has_end lines ≡ t → (rest : List (List ℕ)) × (before_end (lines ++ more) ≡ before_end lines ++ rest)
    by_test true e = ([], before_end_closed lines more e ∙ sym (append-nil (before_end lines)))
    by_test false e = (before_end more, before_end_open lines more e ∙ ap (λ (ls : List (List ℕ)). ls ++ before_end more) (sym (before_end_none lines e)))

-- ---- the lines of a script, of which a front was read

pub script_all : (limit : ℕ) (bytes : List ℕ) → length bytes < limit → script_lines limit bytes ≡ lines_of bytes
script_all limit bytes below = cond-true (nat_lt (length bytes) limit) (lines_of bytes) (whole_lines (take limit bytes)) (lt-ltb _ _ below)

script_past : (limit : ℕ) (bytes : List ℕ) → limit ≤ length bytes → script_lines limit bytes ≡ whole_lines (take limit bytes)
script_past limit bytes past = cond-false (nat_lt (length bytes) limit) (lines_of bytes) (whole_lines (take limit bytes)) (le-ltb _ _ past)

pub script_cut : (limit : ℕ) (read rest : List ℕ) → length read ≡ limit → script_lines limit (read ++ rest) ≡ whole_lines read
script_cut limit read rest same =
    script_past limit (read ++ rest) (omega (arith, length-append read rest)) ∙ ap whole_lines (take_at read rest limit same)

pub script_goes_on : (limit : ℕ) (read rest : List ℕ) → length read ≤ limit
    → (more : List (List ℕ)) × (script_lines limit (read ++ rest) ≡ whole_lines read ++ more)
script_goes_on limit read rest fits = by_test (nat_lt (length (read ++ rest)) limit) refl
  where
    by_test : (t : Bool) → nat_lt (length (read ++ rest)) limit ≡ t
        → (more : List (List ℕ)) × (script_lines limit (read ++ rest) ≡ whole_lines read ++ more)
    by_test true e = let next = lines_go_on read rest in
        (next.0, script_all limit (read ++ rest) (ltb-true _ _ e) ∙ next.1)
    by_test false e =
        let next = whole_go_on read (take (limit - length read) rest) in
        let more : length read + (limit - length read) ≡ limit = omega arith in (
          next.0,
          script_past limit (read ++ rest) (ltb-false _ _ e)
              ∙ ap (λ (n : ℕ). whole_lines (take n (read ++ rest))) (sym more)
              ∙ ap whole_lines (take-append-add read rest (limit - length read)) ∙ next.1,
        )

-- a line that ends the script ended it, whatever comes behind
pub script_ended : (limit : ℕ) (read rest : List ℕ) → length read ≤ limit → has_end (whole_lines read) ≡ true
    → (has_end (script_lines limit (read ++ rest)) ≡ true) × (before_end (script_lines limit (read ++ rest)) ≡ before_end (whole_lines read))
script_ended limit read rest fits ended =
    let next = script_goes_on limit read rest fits in (
      ap has_end next.1 ∙ has_end_append (whole_lines read) next.0 ∙ ap (λ (t : Bool). t || has_end next.0) ended,
      ap before_end next.1 ∙ before_end_closed (whole_lines read) next.0 ended,
    )

-- the lines served so far begin those of the script
pub script_front : (limit : ℕ) (read rest : List ℕ) → length read ≤ limit
    → (more : List (List ℕ)) × (before_end (script_lines limit (read ++ rest)) ≡ before_end (whole_lines read) ++ more)
script_front limit read rest fits =
    let next = script_goes_on limit read rest fits in
    let served = before_end_goes_on (whole_lines read) next.0 in
    (served.0, ap before_end next.1 ∙ served.1)

-- ---- the line that ends a script

pub end_is : (line : List ℕ) → is_end line ≡ true → line ≡ codes "end"
end_is line h = (slice_eq-Decides Decides-eqb line (codes "end") (is_end line) refl).0 h

-- ---- as much of a line as is kept

pub keep_more : (kept : ℕ) (line bytes : List ℕ)
    → take kept line ++ take (kept - length (take kept line)) bytes ≡ take kept (line ++ bytes)
keep_more zero line bytes = refl
keep_more (suc kept) [] bytes =
    let all : suc kept - 0 ≡ suc kept = omega arith in
    ap (λ (n : ℕ). take n bytes) all
keep_more (suc kept) (byte ∷ line) bytes =
    let less : suc kept - suc (length (take kept line)) ≡ kept - length (take kept line) = omega arith in
    ap (λ (n : ℕ). byte ∷ (take kept line ++ take n bytes)) less
    ∙ ap (λ (bs : List ℕ). byte ∷ bs) (keep_more kept line bytes)

pub keep_kept : (kept : ℕ) (line bytes : List ℕ) → take kept (take kept line ++ bytes) ≡ take kept (line ++ bytes)
keep_kept zero line bytes = refl
keep_kept (suc kept) [] bytes = refl
keep_kept (suc kept) (byte ∷ line) bytes = ap (λ (bs : List ℕ). byte ∷ bs) (keep_kept kept line bytes)
