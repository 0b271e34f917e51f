-- A write by a live command declares the tree of its file.
use Rattle.mat_path.proofs.Elements.{contains_map}
use Rattle.mat_path.proofs.SameNames.{same_name-refl, same_names-eq}
use Rattle.std.proofs.Common.{◌≡◌, ℕ, ◌==◌, Bool, true, false, ◌&&◌, List, Some, None, cond, inl, inr, refl, sym, ap, subst, ◌∙◌, find}
use Rattle.std.specs.List.{filter}
use Rattle.std.proofs.lemmas.Bool.{and_from, and_parts, eq-eqb}
use Rattle.mat_path.specs.Names.{same_name}
use Rattle.mat_tree.specs.declared.flat.Flat.{Flat}
use Rattle.mat_tree.specs.declared.sum.Sum.{Sum}
use Rattle.mat_digest.specs.declared.digest.Digest.{Digest}
use Rattle.mat_tree.specs.Trees.{file_tree, same_tree, same_bool, same_digest}
use Rattle.mat_model.specs.declared.answers.Reply.TheVariants as reply
use Rattle.mat_model.specs.declared.book.Book.{Book}
use Rattle.mat_model.specs.Gate.{is_live}
use Rattle.mat_model.specs.Rows.{is_at_path, is_clear_of, used_row}
use Rattle.mat_model.specs.Declarations.{declare, declare_row, is_equal_row, new_row, write, written_tree}
use Rattle.model_laws.specs.Laws.{HasDeclared}
use Rattle.model_laws.proofs.Changes.{used-path, used-stamp, used-tree}
use Rattle.model_laws.proofs.Elements.{found_contains, found_passes}
use Rattle.model_laws.proofs.PutRows.{contains_new}

-- a flag is the same as itself
same_flag : (b : Bool) → same_bool b b ≡ true
same_flag true = refl
same_flag false = refl

-- the tree of a file is the same as itself
same_file : (digest : Digest) (exec : Bool) → same_tree (file_tree digest exec) (file_tree digest exec) ≡ true
same_file digest exec =
    and_from (same_digest digest digest && same_bool exec exec) true
    (and_from (same_digest digest digest) (same_bool exec exec)
    (and_from (same_name digest.hash digest.hash) (digest.size == digest.size) (same_name-refl digest.hash) (eq-eqb digest.size digest.size refl))
    (same_flag exec))
    refl

-- a write by a live command is declared
pub write_declared : (number command : ℕ) (path : List (List ℕ)) (sum : Sum) (book : Book) → is_live command book ≡ true →
    HasDeclared (write number command path sum book).book.rows path (written_tree sum) (write number command path sum book).reply
write_declared number command path sum book live =
    let tree : List Flat = written_tree sum in
    subst (λ (b : Bool).
    HasDeclared (cond b (declare number command path tree book) (record { reply = reply.NotLive; book = book })).book.rows path tree
    (cond b (declare number command path tree book) (record { reply = reply.NotLive; book = book })).reply) (sym live)
    (elim (find (is_equal_row path tree) book.rows) as
    (λ o. find (is_equal_row path tree) book.rows ≡ o →
    HasDeclared (declare_row number command path tree book o).book.rows path tree (declare_row number command path tree book o).reply) [
      | None ↦ λ found. record {
        row = new_row number book.now path tree;
        among = contains_new (new_row number book.now path tree) (filter (is_clear_of path) book.rows);
        placed = refl;
        same = same_file sum.digest false;
        told = inl refl;
      }
      | Some row ↦ λ found.
          let parts = and_parts (is_at_path path row) (same_tree row.tree tree) (found_passes (is_equal_row path tree) book.rows row found) in record {
            row = used_row path book.now row;
            among = contains_map (used_row path book.now) book.rows row (found_contains (is_equal_row path tree) book.rows row found);
            placed = used-path path book.now row ∙ same_names-eq row.path path parts.0;
            same = subst (λ (t : List Flat). same_tree t tree ≡ true) (sym (used-tree path book.now row)) parts.1;
            told = inr (ap (λ (n : ℕ). reply.Kept n) (sym (used-stamp path book.now row)));
          }
    ] refl)
