use Rattle.std.proofs.Common.{◌≡◌, map, take}
use Rattle.mat_core.specs.Opened.{aged_by}
use Rattle.mat_core.proofs.opening.age_all.Given as goal

-- the marks so far
abbrev pub invariant-loop-path : goal.invariant-loop-path
invariant-loop-path l =
    (l.book.marks ≡ map (aged_by (take l.path-index l.paths)) l.fn.book.marks) × (l.book.reserved ≡ l.fn.book.reserved)
