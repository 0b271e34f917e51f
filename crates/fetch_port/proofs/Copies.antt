-- A map's entries, put one behind the other, make the same map.
use Rattle.std.proofs.Common.{◌≡◌, List, [], ◌∷◌, ◌++◌, refl, sym, ap, ◌∙◌, subst, append_assoc, rules}
use Rattle.std.specs.BTreeMap.{insert_entry}
use Rattle.std.specs.Cmp.{IsTotalOrder}
use Rattle.std.specs.Cmp.Rules.{comparing}
use Rattle.std.specs.List.{AllByRecursion}
use Rattle.std.specs.List.Sorted.{IsStrictlySortedBy}
use Rattle.std.specs.Map.{keys_of}
use Rattle.std.specs.Ordering.{match_ordering, ordering_reverse}
use Rattle.std.specs.declared.cmp.Ordering.{Ordering}
use Rattle.std.specs.declared.cmp.Ordering.TheVariants.{Less, Greater}
use Rattle.fetch_port.specs.Keys.{key_cmp}
use Rattle.fetch_port.specs.declared.key.Key.{Key}

key_total : IsTotalOrder key_cmp
key_total = search (comparing, rules)

-- a key that comes before all of a list comes before one of them
before : {X : Type 0} (q key : Key) (x : X) (es rest : List (Key × X)) → AllByRecursion (λ k. key_cmp q k ≡ Less) (keys_of (es ++ (key, x) ∷ rest)) →
    key_cmp q key ≡ Less
before q key x [] rest all = all.0
before q key x (e ∷ es) rest all = before q key x es rest all.1

-- an entry whose key comes behind all goes to the end
insert_behind : {X : Type 0} (key : Key) (x : X) (es rest : List (Key × X)) → IsStrictlySortedBy key_cmp (keys_of (es ++ (key, x) ∷ rest)) →
    insert_entry key_cmp es key x ≡ es ++ (key, x) ∷ []
unfolding IsStrictlySortedBy
insert_behind key x [] rest up = refl
insert_behind {X} key x (e ∷ es) rest up =
    let greater : key_cmp key e.0 ≡ Greater = key_total.antisymm key e.0 ∙ ap ordering_reverse (before e.0 key x es rest up.0) in
    ap (λ (o : Ordering). match_ordering o ((key, x) ∷ e ∷ es) ((e.0, x) ∷ es) (e ∷ insert_entry key_cmp es key x)) greater
    ∙ ap (λ (more : List (Key × X)). e ∷ more) (insert_behind key x es rest up.1)

-- one entry more was put behind those before
pub copied_more : {X : Type 0} (key : Key) (x : X) (es new rest left all : List (Key × X)) → new ≡ insert_entry key_cmp es key x → rest ≡ (key, x) ∷ left →
    es ++ rest ≡ all → IsStrictlySortedBy key_cmp (keys_of all) → new ++ left ≡ all
copied_more {X} key x es new rest left all put next whole up =
    let here : es ++ (key, x) ∷ left ≡ all = ap (λ (r : List (Key × X)). es ++ r) (sym next) ∙ whole in
    ap (λ (n : List (Key × X)). n ++ left)
    (put ∙ insert_behind key x es left (subst (λ (list : List (Key × X)). IsStrictlySortedBy key_cmp (keys_of list)) (sym here) up))
    ∙ append_assoc es ((key, x) ∷ []) left ∙ here
