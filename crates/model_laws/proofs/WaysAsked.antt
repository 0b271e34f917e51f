-- What a request does to the ways of rows: it leaves them, or a declared row gets its own, or a row that lies is held since a write keeps it.
use Rattle.std.proofs.Common.{◌≡◌, ℕ, ◌==◌, Bool, true, false, ◌⊎◌, inl, inr, List, [], ◌∷◌, Option, Some, None, cond, refl, ap₂, find, count_by, Contains}
use Rattle.std.specs.List.{list_all, list_any}
use Rattle.std.proofs.lemmas.Bool.{and_parts, both_ways}
use Rattle.mat_digest.specs.declared.digest.Digest.{Digest}
use Rattle.mat_path.specs.Names.{same_names}
use Rattle.mat_path.proofs.SameNames.{same_names-eq}
use Rattle.mat_tree.specs.declared.flat.Flat.{Flat}
use Rattle.mat_tree.specs.declared.flat.What.{What}
use Rattle.mat_tree.specs.declared.flat.What.TheVariants as what
use Rattle.mat_tree.specs.Trees.{file_tree, is_placed, same_bool, same_digest, same_flat, same_sum, same_tree, same_what}
use Rattle.mat_model.specs.declared.answers.Reply.TheVariants as reply
use Rattle.mat_model.specs.declared.book.Book.{Book}
use Rattle.mat_model.specs.declared.book.Row.{Row}
use Rattle.mat_model.specs.declared.requests.Asked.{Asked}
use Rattle.mat_model.specs.declared.requests.Asked.TheVariants as asked
use Rattle.mat_model.specs.declared.requests.CleanMode.TheVariants as mode
use Rattle.mat_model.specs.Declarations.{copy_tree, declare_row, declared_at, is_equal_row, written_tree}
use Rattle.mat_model.specs.Gate.{Gate, Passed, Served, admits, gate_of, is_known, is_live, may_take, other_state, turn_away}
use Rattle.mat_model.specs.Requests.{RequestContext, ensure_row, has_reply, is_open_of, match_row, passed, serve_now}
use Rattle.mat_model.specs.Rows.{cover, is_at_path}
use Rattle.mat_model.specs.WorkState.{WayOf, held, lies_at, way_declared, ways_after}
use Rattle.model_laws.specs.WorkRules.{IsPlain}
use Rattle.model_laws.proofs.Elements.{found_contains, found_passes}
use Rattle.model_laws.proofs.RowCases.{either_passed, either_served}

-- what becomes of the ways of rows
abbrev pub WaysGo : ℕ → Asked → List Row → List WayOf → List WayOf → Type 0
WaysGo number request rows ways left =
    (left ≡ ways) ⊎ (left ≡ record { stamp = number; way = way_declared request rows ways } ∷ ways)
    ⊎ ((row : Row) × Contains rows row × IsPlain row.tree × (left ≡ record { stamp = row.stamp; way = held } ∷ ways))

-- what becomes of them where a request is served so
abbrev GoWith : ℕ → Asked → List Row → List WayOf → Served → Type 0
GoWith number request rows ways served = WaysGo number request rows ways (ways_after request served.reply rows ways)

-- a tree that is the same as a plain file's is one
same_plain : (tree : List Flat) (digest : Digest) → same_tree tree (file_tree digest false) ≡ true → IsPlain tree
same_plain [] digest same = cc
same_plain (node ∷ []) digest same =
    let parts = and_parts (same_names node.rel []) (same_what node.what (what.File digest false)) (and_parts (same_flat node (record { rel = []; what = what.File digest false })) true same).0 in
    by node.rel node.what (same_names-eq node.rel [] parts.0) parts.1
  where
    by : (rel : List (List ℕ)) (w : What) → rel ≡ [] → same_what w (what.File digest false) ≡ true → IsPlain (record { rel = rel; what = w } ∷ [])
    by rel (what.File other exec) root is =
        let plain : exec ≡ false = off exec (and_parts (same_digest other digest) (same_bool exec false) is).1 in
        (other, ap₂ (λ (r : List (List ℕ)) (e : Bool). record { rel = r; what = what.File other e } ∷ []) root plain)
      where
        off : (e : Bool) → same_bool e false ≡ true → e ≡ false
        off true h = cc
        off false h = refl
    by rel what.Dir root is = cc
    by rel (what.Link target) root is = cc
same_plain (node ∷ other ∷ tree) digest same =
    let parts = and_parts (same_flat node (record { rel = []; what = what.File digest false })) false same in absurd (both_ways false refl parts.1)

-- ways that may be one of two
either_ways : (number : ℕ) (request : Asked) (rows : List Row) (ways first second : List WayOf) (b : Bool) → WaysGo number request rows ways first →
    WaysGo number request rows ways second → WaysGo number request rows ways (cond b first second)
either_ways number request rows ways first second true one other = one
either_ways number request rows ways first second false one other = other

-- the ways after a request
pub asked_ways : (number : ℕ) (context : RequestContext) (request : Asked) (book : Book) (ways : List WayOf) →
    GoWith number request book.rows ways (serve_now number context request book)
asked_ways number context (asked.Enter command state soft refuse) book ways =
    either_passed Q (is_known command gate) _ _ (inl refl)
    (either_passed Q (admits state gate) _ _ (inl refl)
    (either_passed Q (may_take state gate) _ _ (inl refl) (away refuse (other_state state book.state))))
  where
    gate : Gate
    gate = gate_of book

    Q : Passed → Type 0
    Q through = GoWith number (asked.Enter command state soft refuse) book.rows ways (passed number command through book)

    away : (r : Bool) (other : Option ℕ) → Q (turn_away command state soft r other gate)
    away true (Some live) = inl refl
    away true None = inl refl
    away false other = inl refl
asked_ways number context (asked.Leave command) book ways =
    either_served Q (is_known command (gate_of book)) _ _
    (λ known. either_served Q (count_by (is_open_of command) book.tickets == 0) _ _ (λ none. inl refl) (λ busy. inl refl))
    (λ new. inl refl)
  where
    Q : Served → Type 0
    Q = GoWith number (asked.Leave command) book.rows ways
asked_ways number context (asked.Write command path sum) book ways =
    either_served Q (is_live command book) _ _ (λ live. declared (find (is_equal_row path (written_tree sum)) book.rows) refl) (λ dead. inl refl)
  where
    Q : Served → Type 0
    Q = GoWith number (asked.Write command path sum) book.rows ways

    declared : (o : Option Row) → find (is_equal_row path (written_tree sum)) book.rows ≡ o → Q (declare_row number command path (written_tree sum) book o)
    declared None found = inr (inl refl)
    declared (Some row) found =
        let parts = and_parts (is_at_path path row) (same_tree row.tree (written_tree sum)) (found_passes (is_equal_row path (written_tree sum)) book.rows row found) in
        either_ways number (asked.Write command path sum) book.rows ways (record { stamp = row.stamp; way = held } ∷ ways) ways
        (list_any (lies_at path) book.rows)
        (inr (inr (row, found_contains (is_equal_row path (written_tree sum)) book.rows row found, same_plain row.tree sum.digest parts.1, refl))) (inl refl)
asked_ways number context (asked.Declare command path tree) book ways =
    either_served Q (is_live command book) _ _ (λ live. declared (find (is_equal_row path tree) book.rows)) (λ dead. inl refl)
  where
    Q : Served → Type 0
    Q = GoWith number (asked.Declare command path tree) book.rows ways

    declared : (o : Option Row) → Q (declare_row number command path tree book o)
    declared None = inr (inl refl)
    declared (Some row) = inl refl
asked_ways number context (asked.Copy command path source) book ways =
    either_served Q (is_live command book) _ _ (λ live. copied (declared_at book.rows source)) (λ dead. inl refl)
  where
    Q : Served → Type 0
    Q = GoWith number (asked.Copy command path source) book.rows ways

    declared : (tree : List Flat) (o : Option Row) → Q (declare_row number command path tree book o)
    declared tree None = inr (inl refl)
    declared tree (Some row) = inl refl

    copied : (o : Option (List Flat)) → Q (copy_tree number command path book o)
    copied None = inl refl
    copied (Some tree) =
        either_served Q (list_all (is_placed path) tree) _ _ (λ short. declared tree (find (is_equal_row path tree) book.rows)) (λ long. inl refl)
asked_ways number context (asked.Matches command path sum) book ways =
    either_served Q (is_live command book) _ _ (λ live. matched (find (is_at_path path) book.rows)) (λ dead. inl refl)
  where
    Q : Served → Type 0
    Q = GoWith number (asked.Matches command path sum) book.rows ways

    matched : (o : Option Row) → Q (match_row command path sum book o)
    matched None = inl refl
    matched (Some row) = either_served Q (same_sum row.sum sum) _ _ (λ same. inl refl) (λ other. inl refl)
asked_ways number context (asked.Has command path) book ways =
    either_served Q (is_live command book) _ _ (λ live. looked (cover book.rows path)) (λ dead. inl refl)
  where
    Q : Served → Type 0
    Q = GoWith number (asked.Has command path) book.rows ways

    looked : (o : Option Row) → Q (record { reply = has_reply o; book = book })
    looked None = inl refl
    looked (Some row) =
        elim row.stands as (λ b. Q (record { reply = cond b (reply.Stands row.stamp) (reply.NotMade row.stamp); book = book })) [ true ↦ inl refl | false ↦ inl refl ]
asked_ways number context (asked.Ensure command path) book ways =
    either_served Q (is_live command book) _ _ (λ live. ensured (cover book.rows path)) (λ dead. inl refl)
  where
    Q : Served → Type 0
    Q = GoWith number (asked.Ensure command path) book.rows ways

    ensured : (o : Option Row) → Q (ensure_row number command path book o)
    ensured None = inl refl
    ensured (Some row) = either_served Q row.stands _ _ (λ stands. inl refl) (λ lies. inl refl)
asked_ways number context (asked.Invalidate command path) book ways =
    either_served (GoWith number (asked.Invalidate command path) book.rows ways) (is_live command book) _ _ (λ live. inl refl) (λ dead. inl refl)
asked_ways number context (asked.Clean cutoff mode.Dry) book ways = inl refl
asked_ways number context (asked.Clean cutoff mode.Real) book ways = inl refl
asked_ways number context (asked.Clean cutoff mode.All) book ways = inl refl
asked_ways number context asked.Flush book ways = inl refl
