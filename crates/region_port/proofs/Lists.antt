-- Lists in segments, one segment more.
use Rattle.std.proofs.Common.{◌≡◌, ◌+◌, List, [], ◌∷◌, ◌++◌, ap, sym, ◌∙◌, append_assoc, arith, vec_len, map, Bor}
use Rattle.std.proofs.lemmas.List.{append-nil}
use Rattle.std.specs.declared.vec.Vec.{Vec}
use Rattle.std.specs.declared.alloc.Global.{Global}
use Rattle.region_port.specs.Lists.{all_of, count_of}

-- a segment behind the others
pub all_of_push : {X : Type 0} (segments : List (Vec X Global)) (segment : Vec X Global) → all_of (segments ++ segment ∷ []) ≡ all_of segments ++ segment.items
all_of_push [] segment = append-nil segment.items
all_of_push (first ∷ segments) segment = ap (λ rest. first.items ++ rest) (all_of_push segments segment) ∙ sym (append_assoc first.items (all_of segments) segment.items)

-- a segment behind the others adds its length to the count
pub count_of_push : {X : Type 0} (segments : List (Vec X Global)) (segment : Vec X Global) → count_of (segments ++ segment ∷ []) ≡ count_of segments + vec_len segment
count_of_push [] segment = omega arith
count_of_push (first ∷ segments) segment = omega (arith, count_of_push segments segment)

-- the same of segments that are borrowed
pub count_of_pushed : {X : Type 0} (segments : List (Bor (Vec X Global))) (segment : Bor (Vec X Global)) → count_of (map (λ s. s.now) (segments ++ segment ∷ [])) ≡ count_of (map (λ s. s.now) segments) + vec_len segment.now
count_of_pushed [] segment = omega arith
count_of_pushed (first ∷ segments) segment = omega (arith, count_of_pushed segments segment)

-- a segment more
pub all_of-pushed : {X : Type 0} (segments : List (Bor (Vec X Global))) (segment : Bor (Vec X Global)) → all_of (map (λ s. s.now) (segments ++ segment ∷ [])) ≡ all_of (map (λ s. s.now) segments) ++ segment.now.items
all_of-pushed [] segment = append-nil segment.now.items
all_of-pushed (first ∷ segments) segment = ap (λ rest. first.now.items ++ rest) (all_of-pushed segments segment) ∙ sym (append_assoc first.now.items (all_of (map (λ s. s.now) segments)) segment.now.items)
