-- What stood before some pushes still stands in front after one that failed.
use Rattle.std.proofs.Common.{◌≡◌, ℕ, List, ◌++◌, length, take, drop, Result, Ok, Err, sym, ◌∙◌, ap, append_assoc}
use Rattle.std.proofs.Math.Seq.{take-append_seam}
use Rattle.std.proofs.lemmas.List.{take-append-drop}
use Rattle.std.specs.Io.{StartsWith}
use Rattle.std.specs.Prelude.{OnErr}

-- a text that begins with some bytes and others behind them begins with the former
starts_with_front : (old more mid new : List ℕ) → mid ≡ old ++ more → StartsWith new mid → StartsWith new old
starts_with_front old more mid new same h =
    let n = length mid in
    let whole : new ≡ old ++ (more ++ drop n new) =
    sym (take-append-drop n new) ∙ ap (λ (l : List ℕ). l ++ drop n new) (h ∙ same) ∙ append_assoc old more (drop n new) in
    ap (λ (l : List ℕ). take (length old) l) whole ∙ take-append_seam old (more ++ drop n new)

-- where a push behind others failed, what was there before all of them stands in front
pub front_is_left : {T E : Type 0} (answer : Result T E) (old more mid new : List ℕ) → mid ≡ old ++ more → StartsWith new mid
    → OnErr answer (StartsWith new old)
front_is_left (Ok value) old more mid new same h = tt
front_is_left (Err why) old more mid new same h = starts_with_front old more mid new same h
