-- Lists in segments.
use Rattle.std.specs.Prelude.{ℕ, ◌+◌, List, [], ◌∷◌, ◌++◌}
use Rattle.std.specs.Vec.{vec_len}
use Rattle.std.specs.declared.vec.Vec.{Vec}
use Rattle.std.specs.declared.alloc.Global.{Global}

-- the items of segments that stand one behind the other
abbrev pub all_of : {X : Type 0} → List (Vec X Global) → List X
all_of [] = []
all_of (segment ∷ segments) = segment.items ++ all_of segments

-- how many items they have
abbrev pub count_of : {X : Type 0} → List (Vec X Global) → ℕ
count_of [] = 0
count_of (segment ∷ segments) = vec_len segment + count_of segments
