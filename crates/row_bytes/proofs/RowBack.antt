-- A row that is read is the row that was written, and what was written is read again.
use Rattle.std.proofs.Common.{◌≡◌, ℕ, ◌+◌, ◌^◌, ◌<◌, ◌*◌, ◌≤◌, Bool, true, false, cond, eqb, List, [], ◌∷◌, ◌++◌, length, All, Option, Some, None, Result, Ok, Err, ◌⊎◌, refl, sym, ap, subst, ◌∙◌, append_assoc, append-nil, arith}
use Rattle.std.specs.Prelude.{IfOk, IfSome, MatchResult}
use Rattle.std.specs.Int.{w64, to_be_bytes}
use Rattle.std.specs.List.{list_all, sum_by}
use Rattle.std.specs.Cmp.{first_so, second_so}
use Rattle.std.proofs.lemmas.Bool.{eqb-true, eq-eqb, leb-true}
use Rattle.mat_path.proofs.SameNames.{same_name-eq}
use Rattle.mat_path.specs.Names.{same_name}
use Rattle.mat_tree.proofs.Bytes.{bytes_fit}
use Rattle.mat_tree.specs.Trees.{IsNode, IsTree, bytes_of, greatest_file, is_small, size_of}
use Rattle.mat_tree.specs.declared.flat.Flat.{Flat}
use Rattle.row_bytes.specs.Rows.{IsRow, magic, row_bytes, tree_bytes}
use Rattle.row_bytes.specs.Reading.{◌>>=◌, Fails, Gives, Read, cut_at, end_at, last_tree, number_at, place, row_of_version, row_one, row_read, row_two, summed, tree_at}
use Rattle.row_bytes.specs.declared.refusal.RowRefusal.{RowRefusal}
use Rattle.row_bytes.specs.declared.refusal.RowRefusal.TheVariants as refusal
use Rattle.row_bytes.specs.declared.row.KeptTree.{KeptTree}
use Rattle.row_bytes.proofs.FieldsBack.{IsBytes, Takes, Takes-then, bind_ok, cut_again, cut_takes, number_again, number_takes, ok_is, passed, wide64}
use Rattle.row_bytes.proofs.NodesBack.{tree_again, tree_takes}

-- ---- a tree that ends the row

ended : (end : ℕ) (bytes : List ℕ) (x : Unit {0}) → end_at end bytes ≡ Ok x → bytes ≡ []
ended end [] x e = refl
ended end (b ∷ bytes) x e = absurd cc

last_takes : (end : ℕ) (bytes : List ℕ) (tree : List Flat) → IsBytes bytes → last_tree end bytes ≡ Ok tree → (bytes ≡ tree_bytes tree) × IsTree tree × All IsNode tree
unfolding last_tree
last_takes end bytes tree fits e =
    let a = bind_ok (tree_at end bytes) (λ tree. end_at end tree.1 >>= λ done. Ok tree.0) tree e in
    let b = bind_ok (end_at end a.0.1) (λ done. Ok a.0.0) tree a.2 in
    let t = tree_takes end bytes a.0 fits a.1 in
    let whole : bytes ≡ tree_bytes a.0.0 = t.0.parts ∙ ap (λ (r : List ℕ). tree_bytes a.0.0 ++ r) (ended end a.0.1 b.0 b.1) ∙ append-nil (tree_bytes a.0.0) in
    subst (λ (l : List Flat). (bytes ≡ tree_bytes l) × IsTree l × All IsNode l) (ok_is a.0.0 tree b.2) (whole, t.1, t.2)

last_again : (end : ℕ) (tree : List Flat) → IsTree tree → All IsNode tree → last_tree end (tree_bytes tree) ≡ Ok tree
unfolding last_tree
last_again end tree h held =
    let read : tree_at end (tree_bytes tree) ≡ Ok (tree, []) = ap (tree_at end) (sym (append-nil (tree_bytes tree))) ∙ tree_again tree end [] h held in
    rw read refl

-- ---- version 1

one_takes : (end : ℕ) (bytes : List ℕ) (row : KeptTree) → IsBytes bytes → row_one end bytes ≡ Ok row → IsRow (magic 1 ++ bytes) row
unfolding row_one
one_takes end bytes row fits e =
    let a = bind_ok (last_tree end bytes) (λ tree. Ok (record { tree = tree; identity = None })) row e in
    let t = last_takes end bytes a.0 fits a.1 in
    let made : KeptTree = record { tree = a.0; identity = None } in
    subst (λ (r : KeptTree). IsRow (magic 1 ++ bytes) r) (ok_is made row a.2)
    (record { text = ap (λ (b : List ℕ). magic 1 ++ b) t.0; tree = t.1; nodes = t.2; identity = tt })

one_again : (end : ℕ) (tree : List Flat) → IsTree tree → All IsNode tree → row_one end (tree_bytes tree) ≡ Ok (record { tree = tree; identity = None })
unfolding row_one
one_again end tree h held = rw (last_again end tree h held) refl

-- ---- version 2

-- what stands of version 2 behind its magic
two_bytes : ℕ → List Flat → List ℕ
two_bytes identity tree = to_be_bytes w64 identity ++ (to_be_bytes w64 (bytes_of tree) ++ tree_bytes tree)

two_takes : (end : ℕ) (bytes : List ℕ) (row : KeptTree) → IsBytes bytes → row_two end bytes ≡ Ok row → IsRow (magic 2 ++ bytes) row
unfolding row_two
two_takes end bytes row fits e =
    let a = bind_ok (number_at w64 end bytes) (λ identity. number_at w64 end identity.1 >>= λ sum. last_tree end sum.1 >>= λ tree. summed (place end identity.1) sum.0 identity.0 tree) row e in
    let b = bind_ok (number_at w64 end a.0.1) (λ sum. last_tree end sum.1 >>= λ tree. summed (place end a.0.1) sum.0 a.0.0 tree) row a.2 in
    let c = bind_ok (last_tree end b.0.1) (λ tree. summed (place end a.0.1) b.0.0 a.0.0 tree) row b.2 in
    let t0 = number_takes w64 (2 ^ 64) wide64 end bytes a.0.0 a.0.1 fits a.1 in
    let t1 = number_takes w64 (2 ^ 64) wide64 end a.0.1 b.0.0 b.0.1 t0.0.rest_fits b.1 in
    let t2 = last_takes end b.0.1 c.0 t1.0.rest_fits c.1 in
    let made : KeptTree = record { tree = c.0; identity = Some a.0.0 } in
    let g = passed (eqb b.0.0 (bytes_of c.0)) (place end a.0.1) made row c.2 in
    let sum : b.0.0 ≡ bytes_of c.0 = eqb-true b.0.0 (bytes_of c.0) g.0 in
    let inner : a.0.1 ≡ to_be_bytes w64 (bytes_of c.0) ++ tree_bytes c.0 =
    t1.0.parts ∙ ap (λ (n : ℕ). to_be_bytes w64 n ++ b.0.1) sum ∙ ap (λ (r : List ℕ). to_be_bytes w64 (bytes_of c.0) ++ r) t2.0 in
    let whole : bytes ≡ to_be_bytes w64 a.0.0 ++ (to_be_bytes w64 (bytes_of c.0) ++ tree_bytes c.0) =
    t0.0.parts ∙ ap (λ (r : List ℕ). to_be_bytes w64 a.0.0 ++ r) inner in
    subst (λ (r : KeptTree). IsRow (magic 2 ++ bytes) r) g.1
    (record { text = ap (λ (r : List ℕ). magic 2 ++ r) whole; tree = t2.1; nodes = t2.2; identity = t0.1 })

two_again : (end identity : ℕ) (tree : List Flat) → identity < 2 ^ 64 → IsTree tree → All IsNode tree
    → row_two end (to_be_bytes w64 identity ++ (to_be_bytes w64 (bytes_of tree) ++ tree_bytes tree)) ≡ Ok (record { tree = tree; identity = Some identity })
unfolding row_two
two_again end identity tree small h held =
    let same : eqb (bytes_of tree) (bytes_of tree) ≡ true = eq-eqb (bytes_of tree) (bytes_of tree) refl in
    rw (
      number_again w64 (2 ^ 64) wide64 end identity (to_be_bytes w64 (bytes_of tree) ++ tree_bytes tree) small,
      number_again w64 (2 ^ 64) wide64 end (bytes_of tree) (tree_bytes tree) (bytes_fit tree h),
      last_again end tree h held,
      same,
    ) refl

-- ---- both versions

version_takes : (front : List ℕ) (end : ℕ) (bytes : List ℕ) (row : KeptTree) → IsBytes bytes → row_of_version front end bytes ≡ Ok row → IsRow (front ++ bytes) row
version_takes front end bytes row fits e = by_one (same_name front (magic 1)) refl e
  where
    by_two : (t : Bool) → same_name front (magic 2) ≡ t → cond t (row_two end bytes) (Err 0) ≡ Ok row → IsRow (front ++ bytes) row
    by_two true h e =
        subst (λ (f : List ℕ). IsRow (f ++ bytes) row) (sym (same_name-eq front (magic 2) h)) (two_takes end bytes row fits e)
    by_two false h e = absurd cc

    by_one : (t : Bool) → same_name front (magic 1) ≡ t → cond t (row_one end bytes) (cond (same_name front (magic 2)) (row_two end bytes) (Err 0)) ≡ Ok row → IsRow (front ++ bytes) row
    by_one true h e =
        subst (λ (f : List ℕ). IsRow (f ++ bytes) row) (sym (same_name-eq front (magic 1) h)) (one_takes end bytes row fits e)
    by_one false h e = by_two (same_name front (magic 2)) refl e

pub row_takes : (bytes : List ℕ) (row : KeptTree) → IsBytes bytes → row_read bytes ≡ Ok row → IsRow bytes row
unfolding row_read
row_takes bytes row fits e =
    let a = bind_ok (cut_at 3 (length bytes) bytes) (λ front. row_of_version front.0 (length bytes) front.1) row e in
    let t = cut_takes 3 (length bytes) bytes a.0 fits a.1 in
    subst (λ (b : List ℕ). IsRow b row) (sym t.0.parts) (version_takes a.0.0 (length bytes) a.0.1 row t.0.rest_fits a.2)

read_written : (identity : Option ℕ) (tree : List Flat) → IfSome identity (λ n. n < 2 ^ 64) → IsTree tree → All IsNode tree
    → row_read (row_bytes identity tree) ≡ Ok (record { tree = tree; identity = identity })
unfolding row_read
read_written None tree fits h held =
    rw (cut_again 3 (length (magic 1 ++ tree_bytes tree)) (magic 1) (tree_bytes tree) refl) (one_again (length (magic 1 ++ tree_bytes tree)) tree h held)
read_written (Some identity) tree fits h held =
    let behind = to_be_bytes w64 identity ++ (to_be_bytes w64 (bytes_of tree) ++ tree_bytes tree) in
    rw (cut_again 3 (length (magic 2 ++ behind)) (magic 2) behind refl) (two_again (length (magic 2 ++ behind)) identity tree fits h held)

pub row_again : (bytes : List ℕ) (row : KeptTree) → IsRow bytes row → row_read bytes ≡ Ok row
row_again bytes row h = ap row_read h.text ∙ read_written row.identity row.tree h.identity h.tree h.nodes

pub one_row : (bytes : List ℕ) (first second : KeptTree) → IsRow bytes first → IsRow bytes second → first ≡ second
one_row bytes first second a b =
    let read_a = row_again bytes first a in
    let read_b = row_again bytes second b in
    cc (read_a, read_b)

-- ---- answers

pub is_found : (bytes : List ℕ) (r : Result KeptTree RowRefusal) → IsBytes bytes → Gives (λ row. row) r (row_read bytes) → IfOk r (λ row. IsRow bytes row)
is_found bytes (Ok row) fits given = row_takes bytes row fits given
is_found bytes (Err why) fits given = tt

pub is_whole : (bytes : List ℕ) (r : Result KeptTree RowRefusal) → Gives (λ row. row) r (row_read bytes) → (row : KeptTree) → IsRow bytes row
    → MatchResult r (λ read. read ≡ row) (λ why. why ≡ refusal.NoMemory)
is_whole bytes (Ok read) given row h = let again = row_again bytes row h in cc (again, given)
is_whole bytes (Err refusal.NoMemory) given row h = refl
is_whole bytes (Err (refusal.Bad at)) given row h = absurd (let again = row_again bytes row h in cc (again, given))

-- ---- writing

-- a row that is written in parts
pub is_written : (nodes told put : List Flat) (tree : List Flat) (start front out : List ℕ) (identity sum : ℕ) → IsTree tree → identity < 2 ^ 64 → nodes ≡ tree → told ≡ nodes
    → put ≡ nodes → start ≡ [] → sum ≡ bytes_of tree → All IsNode told → front ≡ start ++ (magic 2 ++ (to_be_bytes w64 identity ++ to_be_bytes w64 sum))
    → out ≡ front ++ tree_bytes put → IsRow out (record { tree = tree; identity = Some identity })
is_written nodes told put tree start front out identity sum h fits is told_is put_is none sum_is held front_is out_is = record {
  text = out_is ∙ ap (λ (f : List ℕ). f ++ tree_bytes put) (front_is ∙ ap (λ (s : List ℕ). s ++ (magic 2 ++ (to_be_bytes w64 identity ++ to_be_bytes w64 sum))) none
      ∙ ap (λ (n : ℕ). magic 2 ++ (to_be_bytes w64 identity ++ to_be_bytes w64 n)) sum_is)
      ∙ ap (λ (t : List Flat). (magic 2 ++ (to_be_bytes w64 identity ++ to_be_bytes w64 (bytes_of tree))) ++ tree_bytes t) (put_is ∙ is);
  tree = h;
  nodes = subst (λ (t : List Flat). All IsNode t) (told_is ∙ is) held;
  identity = fits;
}
