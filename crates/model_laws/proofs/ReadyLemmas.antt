-- What an ensure that is told Ready rests on: a row that stands.
use Rattle.std.proofs.Common.{◌≡◌, ℕ, true, false, List, length, drop, Some, None, cond, refl}
use Rattle.std.proofs.lemmas.Bool.{and_parts}
use Rattle.mat_path.specs.Names.{is_prefix}
use Rattle.mat_tree.specs.declared.sum.Sum.{Sum}
use Rattle.mat_tree.specs.Trees.{has_node}
use Rattle.mat_model.specs.declared.answers.Reply.TheVariants as reply
use Rattle.mat_model.specs.declared.book.Book.{Book}
use Rattle.mat_model.specs.declared.book.Row.{Row}
use Rattle.mat_model.specs.Gate.{is_live}
use Rattle.mat_model.specs.Rows.{cover, covers, used}
use Rattle.mat_model.specs.Requests.{ensure, ensure_row, grant}
use Rattle.model_laws.specs.Laws.{IsReady}
use Rattle.model_laws.proofs.Elements.{found_passes}

-- what an ensure is granted is a row that stands
granted : (number command : ℕ) (path : List (List ℕ)) (book changed : Book) (row : Row) (stamp : ℕ) (sum : Sum) →
    cover book.rows path ≡ Some row →
    (grant number command path row.stamp row.sum row.stands changed).reply ≡ reply.Ready stamp sum → IsReady book.rows path stamp sum
granted number command path book changed row stamp sum found =
    elim row.stands as
    (λ s. row.stands ≡ s → (grant number command path row.stamp row.sum s changed).reply ≡ reply.Ready stamp sum → IsReady book.rows path stamp sum) [
      | true ↦ λ stands is.
          let same_stamp : row.stamp ≡ stamp = cc in
          let same_sum : row.sum ≡ sum = cc in
          let parts = and_parts (is_prefix row.path path) (has_node row.tree (drop (length row.path) path))
          (found_passes (covers path) book.rows row found) in
          record { row = row; found = found; stands = stands; stamped = same_stamp; summed = same_sum; above = parts.0; node = parts.1 }
      | false ↦ λ lies is. absurd cc
    ] refl

-- where an ensure is told that a path is ready, a row that stands covers it, with that stamp and that sum
pub ready_row : (number command : ℕ) (path : List (List ℕ)) (book : Book) (stamp : ℕ) (sum : Sum) →
    (ensure number command path book).reply ≡ reply.Ready stamp sum → IsReady book.rows path stamp sum
ready_row number command path book stamp sum is =
    elim (is_live command book) as
    (λ b. (cond b (ensure_row number command path book (cover book.rows path)) (record { reply = reply.NotLive; book = book })).reply
    ≡ reply.Ready stamp sum → IsReady book.rows path stamp sum) [
      | true ↦ λ live.
          elim (cover book.rows path) as
          (λ o. cover book.rows path ≡ o → (ensure_row number command path book o).reply ≡ reply.Ready stamp sum → IsReady book.rows path stamp sum) [
            | None ↦ λ found here. absurd cc
            | Some row ↦ λ found here.
                granted number command path book (record book { rows = used row.path book.now book.rows }) row stamp sum found here
          ] refl live
      | false ↦ λ dead. absurd cc
    ] is
