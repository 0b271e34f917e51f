-- An item that a line says is within its bounds.
use Rattle.mat_tree.specs.Trees.{is_placed}
use Rattle.std.proofs.Common.{◌≡◌, ℕ, ◌^◌, ◌<◌, ◌≤◌, Bool, true, false, nat_le, nat_lt, if◌then◌else◌, List, [], ◌∷◌, Option, Some, None, refl, subst}
use Rattle.std.specs.List.{list_all}
use Rattle.std.proofs.lemmas.Bool.{leb-true, ltb-true}
use Rattle.mat_path.specs.Names.{path_of}
use Rattle.mat_model.specs.declared.requests.Request.{Request}
use Rattle.mat_model.specs.declared.requests.Request.TheVariants as request
use Rattle.mat_tree.specs.declared.flat.Flat.{Flat}
use Rattle.tree_words.specs.Rests.{none_of}
use Rattle.script_lang.specs.declared.items.Item.{Item}
use Rattle.script_lang.specs.declared.items.Item.TheVariants as item
use Rattle.script_lang.specs.declared.verbs.Asking.{Asking}
use Rattle.script_lang.specs.declared.verbs.Asking.TheVariants as asking
use Rattle.script_lang.specs.declared.verbs.Doing.{Doing}
use Rattle.script_lang.specs.declared.verbs.Doing.TheVariants as doing
use Rattle.script_lang.specs.Bounds.{HasBounds, HasRequestBounds}
use Rattle.script_lang.specs.Items.{Word, an_enter, at_of, blob_of, clean_of, copy_of, declare_of, enter_of, ensure_of, fail_of, four_of, has_of, invalidate_of, item_behind, item_of, leave_of, lie_of, match_of, one_of, other_of, placed, request_of, show_of, step_of, stop_of, three_of, two_and_more_of, two_of, two_or_three_of, with_one, with_three, with_two, write_of}
use Rattle.script_lang.specs.Spelled.{at_least_one, below, command_of, count_of, number_of, tree_spelled}
use Rattle.script_lang.specs.Verbs.{asking_of, doing_of}

-- ---- what was made has its parts

-- what was made of a part has it
pub parts_of_one : {A B : Type 0} (f : A → B) (o : Option A) (r : B) → with_one f o ≡ Some r → (a : A) × (o ≡ Some a) × (f a ≡ r)
parts_of_one f None r h = absurd cc
parts_of_one f (Some a) r h = (a, refl, let e : f a ≡ r = cc in e)

-- what was made of two parts has both
pub parts_of_two : {A B C : Type 0} (f : A → B → C) (o : Option A) (p : Option B) (r : C) → with_two f o p ≡ Some r
    → (a : A) × (b : B) × (o ≡ Some a) × (p ≡ Some b) × (f a b ≡ r)
parts_of_two f None p r h = absurd cc
parts_of_two f (Some a) None r h = absurd cc
parts_of_two f (Some a) (Some b) r h = (a, b, refl, refl, let e : f a b ≡ r = cc in e)

-- what was made of three parts has all
pub parts_of_three : {A B C D : Type 0} (f : A → B → C → D) (o : Option A) (p : Option B) (q : Option C) (r : D) → with_three f o p q ≡ Some r
    → (a : A) × (b : B) × (c : C) × (o ≡ Some a) × (p ≡ Some b) × (q ≡ Some c) × (f a b c ≡ r)
parts_of_three f None p q r h = absurd cc
parts_of_three f (Some a) None q r h = absurd cc
parts_of_three f (Some a) (Some b) None r h = absurd cc
parts_of_three f (Some a) (Some b) (Some c) r h = (a, b, c, refl, refl, refl, let e : f a b c ≡ r = cc in e)

-- ---- bounds of parts

below_bound : (bound : ℕ) (o : Option ℕ) (n : ℕ) → below bound o ≡ Some n → n < bound
below_bound bound None n h = absurd cc
below_bound bound (Some m) n h = by_test (nat_lt m bound) refl h
  where
    by_test : (t : Bool) → nat_lt m bound ≡ t → (if t then Some m else None) ≡ Some n → n < bound
    by_test true e same = subst (λ (k : ℕ). k < bound) (let s : m ≡ n = cc in s) (ltb-true m bound e)
    by_test false e same = absurd cc

least_bound : (o : Option ℕ) (n : ℕ) → at_least_one o ≡ Some n → 1 ≤ n
least_bound None n h = absurd cc
least_bound (Some m) n h = by_test (nat_le 1 m) refl h
  where
    by_test : (t : Bool) → nat_le 1 m ≡ t → (if t then Some m else None) ≡ Some n → 1 ≤ n
    by_test true e same = subst (λ (k : ℕ). 1 ≤ k) (let s : m ≡ n = cc in s) (leb-true 1 m e)
    by_test false e same = absurd cc

placed_bound : (o : Option (List (List ℕ))) (t : Option (List Flat)) (path : List (List ℕ)) (tree : List Flat) → o ≡ Some path → placed o t ≡ Some tree
    → list_all (is_placed path) tree ≡ true
placed_bound None t path tree is h = absurd cc
placed_bound (Some p) None path tree is h = absurd cc
placed_bound (Some p) (Some ns) path tree is h =
    subst (λ (q : List (List ℕ)). list_all (is_placed q) tree ≡ true) (let s : p ≡ path = cc in s) (by_test (list_all (is_placed p) ns) refl h)
  where
    by_test : (b : Bool) → list_all (is_placed p) ns ≡ b → (if b then Some ns else None) ≡ Some tree → list_all (is_placed p) tree ≡ true
    by_test true e same = subst (λ (t : List Flat). list_all (is_placed p) t ≡ true) (let s : ns ≡ tree = cc in s) e
    by_test false e same = absurd cc

-- ---- requests

enter_bounds : (o : Option (Word × Word × Option Word)) (r : Request) → enter_of o ≡ Some r → HasRequestBounds r
enter_bounds None r h = absurd cc
enter_bounds (Some ws) r h = subst HasRequestBounds (parts_of_three an_enter _ _ _ r h).6 tt

has_bounds : (o : Option (Word × Word)) (r : Request) → has_of o ≡ Some r → HasRequestBounds r
has_bounds None r h = absurd cc
has_bounds (Some ws) r h = subst HasRequestBounds (parts_of_two request.Has _ _ r h).4 tt

ensure_bounds : (o : Option (Word × Word)) (r : Request) → ensure_of o ≡ Some r → HasRequestBounds r
ensure_bounds None r h = absurd cc
ensure_bounds (Some ws) r h = subst HasRequestBounds (parts_of_two request.Ensure _ _ r h).4 tt

invalidate_bounds : (o : Option (Word × Word)) (r : Request) → invalidate_of o ≡ Some r → HasRequestBounds r
invalidate_bounds None r h = absurd cc
invalidate_bounds (Some ws) r h = subst HasRequestBounds (parts_of_two request.Invalidate _ _ r h).4 tt

write_bounds : (o : Option (Word × Word × Word)) (r : Request) → write_of o ≡ Some r → HasRequestBounds r
write_bounds None r h = absurd cc
write_bounds (Some ws) r h = subst HasRequestBounds (parts_of_three request.Write _ _ _ r h).6 tt

copy_bounds : (o : Option (Word × Word × Word)) (r : Request) → copy_of o ≡ Some r → HasRequestBounds r
copy_bounds None r h = absurd cc
copy_bounds (Some ws) r h = subst HasRequestBounds (parts_of_three request.Copy _ _ _ r h).6 tt

leave_bounds : (o : Option Word) (r : Request) → leave_of o ≡ Some r → HasRequestBounds r
leave_bounds None r h = absurd cc
leave_bounds (Some w) r h = subst HasRequestBounds (parts_of_one request.Leave _ r h).2 tt

match_bounds : (o : Option (Word × Word × Word × Word)) (r : Request) → match_of o ≡ Some r → HasRequestBounds r
match_bounds None r h = absurd cc
match_bounds (Some ws) r h = subst HasRequestBounds (parts_of_three request.Matches _ _ _ r h).6 tt

declare_bounds : (o : Option (Word × Word × List Word)) (r : Request) → declare_of o ≡ Some r → HasRequestBounds r
declare_bounds None r h = absurd cc
declare_bounds (Some ws) r h =
    let got = parts_of_three request.Declare (command_of ws.0) (path_of ws.1) (placed (path_of ws.1) (tree_spelled ws.2)) r h in
    subst HasRequestBounds got.6 (placed_bound (path_of ws.1) (tree_spelled ws.2) got.1 got.2 got.4 got.5)

clean_bounds : (o : Option (Word × Word)) (r : Request) → clean_of o ≡ Some r → HasRequestBounds r
clean_bounds None r h = absurd cc
clean_bounds (Some ws) r h =
    let got = parts_of_two request.Clean _ _ r h in
    subst HasRequestBounds got.4 (below_bound (2 ^ 63) (number_of ws.0) got.0 got.2)

flush_bounds : (t : Bool) (r : Request) → (if t then Some request.Flush else None) ≡ Some r → HasRequestBounds r
flush_bounds true r h = subst HasRequestBounds (let s : request.Flush ≡ r = cc in s) tt
flush_bounds false r h = absurd cc

request_bounds : (asked : Asking) (words : List Word) (r : Request) → request_of asked words ≡ Some r → HasRequestBounds r
request_bounds asking.Enter words r h = enter_bounds (two_or_three_of words) r h
request_bounds asking.Leave words r h = leave_bounds (one_of words) r h
request_bounds asking.Write words r h = write_bounds (three_of words) r h
request_bounds asking.Declare words r h = declare_bounds (two_and_more_of words) r h
request_bounds asking.Copy words r h = copy_bounds (three_of words) r h
request_bounds asking.Match words r h = match_bounds (four_of words) r h
request_bounds asking.Has words r h = has_bounds (two_of words) r h
request_bounds asking.Ensure words r h = ensure_bounds (two_of words) r h
request_bounds asking.Invalidate words r h = invalidate_bounds (two_of words) r h
request_bounds asking.Clean words r h = clean_bounds (two_of words) r h
request_bounds asking.Flush words r h = flush_bounds (none_of words) r h

-- ---- other items

blob_bounds : (workers : ℕ) (o : Option Word) (it : Item) → blob_of o ≡ Some it → HasBounds workers it
blob_bounds workers None it h = absurd cc
blob_bounds workers (Some w) it h = subst (HasBounds workers) (parts_of_one item.Blob _ it h).2 tt

lie_bounds : (workers : ℕ) (o : Option (Word × Word)) (it : Item) → lie_of o ≡ Some it → HasBounds workers it
lie_bounds workers None it h = absurd cc
lie_bounds workers (Some ws) it h = subst (HasBounds workers) (parts_of_two item.Lie _ _ it h).4 tt

at_bounds : (workers : ℕ) (o : Option Word) (it : Item) → at_of o ≡ Some it → HasBounds workers it
at_bounds workers None it h = absurd cc
at_bounds workers (Some w) it h =
    let got = parts_of_one item.At _ it h in
    subst (HasBounds workers) got.2 (below_bound (2 ^ 63) (number_of w) got.0 got.1)

step_bounds : (workers : ℕ) (o : Option Word) (it : Item) → step_of workers o ≡ Some it → HasBounds workers it
step_bounds workers None it h = absurd cc
step_bounds workers (Some w) it h =
    let got = parts_of_one item.Step _ it h in
    subst (HasBounds workers) got.2 (below_bound workers (number_of w) got.0 got.1)

show_bounds : (workers : ℕ) (o : Option Word) (it : Item) → show_of o ≡ Some it → HasBounds workers it
show_bounds workers None it h = absurd cc
show_bounds workers (Some w) it h = subst (HasBounds workers) (parts_of_one item.Show _ it h).2 tt

fail_bounds : (workers : ℕ) (o : Option (Word × Word)) (it : Item) → fail_of o ≡ Some it → HasBounds workers it
fail_bounds workers None it h = absurd cc
fail_bounds workers (Some ws) it h =
    let got = parts_of_two item.Fail _ _ it h in
    subst (HasBounds workers) got.4 (least_bound (count_of ws.1) got.1 got.3)

stop_bounds : (workers : ℕ) (o : Option (Word × Word)) (it : Item) → stop_of o ≡ Some it → HasBounds workers it
stop_bounds workers None it h = absurd cc
stop_bounds workers (Some ws) it h = subst (HasBounds workers) (parts_of_two item.Stop _ _ it h).4 tt

alone_bounds : (workers : ℕ) (one : Item) (t : Bool) (it : Item) → HasBounds workers one → (if t then Some one else None) ≡ Some it → HasBounds workers it
alone_bounds workers one true it has h = subst (HasBounds workers) (let s : one ≡ it = cc in s) has
alone_bounds workers one false it has h = absurd cc

other_bounds : (workers : ℕ) (did : Doing) (words : List Word) (it : Item) → other_of workers did words ≡ Some it → HasBounds workers it
other_bounds workers doing.Blob words it h = blob_bounds workers (one_of words) it h
other_bounds workers doing.Lie words it h = lie_bounds workers (two_of words) it h
other_bounds workers doing.At words it h = at_bounds workers (one_of words) it h
other_bounds workers doing.Step words it h = step_bounds workers (one_of words) it h
other_bounds workers doing.Drain words it h = alone_bounds workers item.Drain (none_of words) it tt h
other_bounds workers doing.Show words it h = show_bounds workers (one_of words) it h
other_bounds workers doing.Asks words it h = alone_bounds workers item.Asks (none_of words) it tt h
other_bounds workers doing.Fail words it h = fail_bounds workers (two_of words) it h
other_bounds workers doing.Stop words it h = stop_bounds workers (two_of words) it h
other_bounds workers doing.Restart words it h = alone_bounds workers item.Restart (none_of words) it tt h

-- ---- any item

behind_bounds : (workers : ℕ) (words : List Word) (asked : Option Asking) (did : Option Doing) (it : Item)
    → item_behind workers words asked did ≡ Some it → HasBounds workers it
behind_bounds workers words (Some asked) did it h =
    let got = parts_of_one item.Request (request_of asked words) it h in
    subst (HasBounds workers) got.2 (request_bounds asked words got.0 got.1)
behind_bounds workers words None (Some did) it h = other_bounds workers did words it h
behind_bounds workers words None None it h = absurd cc

-- an item that words say is within the bounds of lines
pub item_of_has_bounds : (workers : ℕ) (words : List Word) (it : Item) → item_of workers words ≡ Some it → HasBounds workers it
item_of_has_bounds workers [] it h = absurd cc
item_of_has_bounds workers (verb ∷ words) it h = behind_bounds workers words (asking_of verb) (doing_of verb) it h
