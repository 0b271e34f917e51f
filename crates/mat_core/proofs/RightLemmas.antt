-- The bytes that a method holds have the digest of each file of a tree.
use Rattle.std.proofs.Common.{◌≡◌, ℕ, true, false, cond, List, [], ◌∷◌, map, filter, Some, None, refl, ◌∙◌, sym, subst}
use Rattle.std.specs.List.{list_all}
use Rattle.std.proofs.lemmas.Bool.{and_from, and_parts, both_ways}
use Rattle.mat_digest.specs.declared.digest.Digest.{Digest}
use Rattle.mat_digest.specs.Digests.{digest_of}
use Rattle.mat_path.specs.Names.{same_names}
use Rattle.mat_tree.specs.declared.flat.Flat.{Flat}
use Rattle.mat_tree.specs.declared.flat.What.{What}
use Rattle.mat_tree.specs.declared.flat.What.TheVariants as what
use Rattle.mat_tree.specs.declared.sum.Sum.{Sum}
use Rattle.mat_tree.specs.Trees.{is_below, is_standing, same_bool, same_digest, same_flat, same_tree, same_what, seen_from, sub_at, sub_tree, what_at}
use Rattle.mat_model.specs.Declarations.{written_tree}
use Rattle.write_plan.specs.declared.method.Method.{Method}
use Rattle.write_plan.specs.declared.method.Method.TheVariants as method
use Rattle.write_plan.specs.declared.method.Origin.TheVariants as origin
use Rattle.row_book.specs.declared.stock.Stock.{Stock}
use Rattle.row_book.specs.Stocks.{is_held_method}
use Rattle.job_run.specs.Orders.{is_right, is_right_what}
use Rattle.job_run.proofs.DigestLemmas.{same_digest-eq, same_digest-refl}
use Rattle.mat_core.specs.Copying.{copy_of, origin_in}

-- of a method that holds no bytes nothing is asked
pub unheld_right : (way : Method) (tree : List Flat) → is_held_method way ≡ false → list_all (is_right way) tree ≡ true
unheld_right way [] unheld = refl
unheld_right way (node ∷ tree) unheld =
    and_from (is_right way node) (list_all (is_right way) tree) (by way node.what unheld) (unheld_right way tree unheld)
  where
    by : (m : Method) (w : What) → is_held_method m ≡ false → is_right_what m w ≡ true
    by m what.Dir none = refl
    by m (what.Link target) none = refl
    by (method.Write bytes) (what.File digest exec) none = absurd (both_ways true none refl)
    by method.Fetch (what.File digest exec) none = refl
    by (method.Copy source rest stamp (origin.Inline bytes)) (what.File digest exec) none = absurd (both_ways true none refl)
    by (method.Copy source rest stamp origin.Store) (what.File digest exec) none = refl

-- bytes that are written have the digest of their own file
pub written_right : (bytes : List ℕ) (sum : Sum) → sum.digest ≡ digest_of bytes → list_all (is_right (method.Write bytes)) (written_tree sum) ≡ true
written_right bytes sum is =
    and_from (same_digest (digest_of bytes) sum.digest) true
    (subst (λ (d : Digest). same_digest (digest_of bytes) d ≡ true) (sym is) (same_digest-refl (digest_of bytes))) refl

-- what holds for a tree holds for one that is the same
pub same_right : (way : Method) (tree other : List Flat) → same_tree other tree ≡ true → list_all (is_right way) tree ≡ true → list_all (is_right way) other ≡ true
same_right way [] [] same right = refl
same_right way [] (first ∷ other) same right = absurd (both_ways false refl same)
same_right way (node ∷ tree) [] same right = refl
same_right way (node ∷ tree) (first ∷ other) same right =
    let (one, more) = and_parts (same_flat first node) (same_tree other tree) same in
    let (is, all) = and_parts (is_right way node) (list_all (is_right way) tree) right in
    and_from (is_right way first) (list_all (is_right way) other)
    (by first.what node.what (and_parts (same_names first.rel node.rel) (same_what first.what node.what) one).1 is) (same_right way tree other more all)
  where
    by : (w u : What) → same_what w u ≡ true → is_right_what way u ≡ true → is_right_what way w ≡ true
    by what.Dir u is it = refl
    by (what.Link target) u is it = refl
    by (what.File digest exec) (what.File wanted flag) is it =
        subst (λ (d : Digest). is_right_what way (what.File d exec) ≡ true)
        (sym (same_digest-eq digest wanted (and_parts (same_digest digest wanted) (same_bool exec flag) is).0)) it
    by (what.File digest exec) what.Dir is it = absurd (both_ways false refl is)
    by (what.File digest exec) (what.Link target) is it = absurd (both_ways false refl is)

-- of a copy the same is asked as of what it was copied from
copied_what : (stock : Stock) (rest : List (List ℕ)) (w : What) → is_right_what (copy_of stock rest) w ≡ is_right_what stock.method w
copied_what stock rest w = by stock.method w
  where
    by : (m : Method) (w : What) → is_right_what (method.Copy stock.row.path rest stock.row.stamp (origin_in m)) w ≡ is_right_what m w
    by m what.Dir = refl
    by m (what.Link target) = refl
    by (method.Write bytes) (what.File digest exec) = refl
    by method.Fetch (what.File digest exec) = refl
    by (method.Copy source other stamp (origin.Inline bytes)) (what.File digest exec) = refl
    by (method.Copy source other stamp origin.Store) (what.File digest exec) = refl

-- and so of each part of its tree
part_right : (stock : Stock) (rest at : List (List ℕ)) (tree : List Flat) → list_all (is_right stock.method) tree ≡ true →
    list_all (is_right (copy_of stock rest)) (sub_tree tree at) ≡ true
part_right stock rest at [] right = refl
part_right stock rest at (node ∷ tree) right =
    let (is, all) = and_parts (is_right stock.method node) (list_all (is_right stock.method) tree) right in
    elim (is_below at node) as
    (λ b. list_all (is_right (copy_of stock rest)) (map (seen_from at) (cond b (node ∷ filter (is_below at) tree) (filter (is_below at) tree))) ≡ true) [
      | true ↦
          and_from (is_right (copy_of stock rest) node) (list_all (is_right (copy_of stock rest)) (sub_tree tree at))
          (copied_what stock rest node.what ∙ is) (part_right stock rest at tree all)
      | false ↦ part_right stock rest at tree all
    ]

-- where the bytes that are held for a row have the digest of its file, those of a copy of what it has at a rel have the digest of the copy's
pub copied_right : (stock : Stock) (rest at : List (List ℕ)) (tree : List Flat) → sub_at stock.row.tree at ≡ Some tree →
    list_all (is_right stock.method) stock.row.tree ≡ true → list_all (is_right (copy_of stock rest)) tree ≡ true
copied_right stock rest at tree found right =
    elim (is_standing (what_at stock.row.tree at)) as
    (λ b. cond b (Some (sub_tree stock.row.tree at)) None ≡ Some tree → list_all (is_right (copy_of stock rest)) tree ≡ true) [
      | true ↦ λ there.
          let same : sub_tree stock.row.tree at ≡ tree = cc in
          subst (λ (t : List Flat). list_all (is_right (copy_of stock rest)) t ≡ true) same (part_right stock rest at stock.row.tree right)
      | false ↦ λ none. absurd cc
    ] found
