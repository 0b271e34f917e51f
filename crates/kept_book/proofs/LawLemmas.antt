-- Marks and the stored rows of the model.
use Rattle.std.proofs.Common.{◌≡◌, ℕ, not, ◌||◌, List, [], ◌∷◌, map, refl, sym, ap}
use Rattle.std.specs.List.{filter}
use Rattle.mat_path.specs.Names.{same_names}
use Rattle.mat_model.specs.Kept.{KeptRow, is_kept_clear, is_listed as is_row_listed, is_unlisted}
use Rattle.mat_model.specs.declared.answers.Gone.{Gone}
use Rattle.path_trie.proofs.Lists.{filter_in}
use Rattle.kept_book.specs.Marks.{gone_path, is_clear_mark, is_listed, is_mark_unlisted, mark_of}

pub clear_in_step : (path : List (List ℕ)) (kept : List KeptRow) → map mark_of (filter (is_kept_clear path) kept) ≡ filter (is_clear_mark path) (map mark_of kept)
clear_in_step path kept = sym (filter_in mark_of (is_clear_mark path) (is_kept_clear path) (λ x. refl) kept)

listed_same : (gone : List Gone) (row : KeptRow) → is_listed (map gone_path gone) row.path ≡ is_row_listed gone row
listed_same [] row = refl
listed_same (one ∷ gone) row = ap (λ b. same_names one.path row.path || b) (listed_same gone row)

pub unlisted_in_step : (gone : List Gone) (kept : List KeptRow) → map mark_of (filter (is_unlisted gone) kept) ≡ filter (is_mark_unlisted (map gone_path gone)) (map mark_of kept)
unlisted_in_step gone kept =
    sym (filter_in mark_of (is_mark_unlisted (map gone_path gone)) (is_unlisted gone) (λ x. ap not (listed_same gone x)) kept)
