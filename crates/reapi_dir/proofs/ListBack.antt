-- What is written of a list of nodes is read as it, and what is read as one was written of it.
use Rattle.std.specs.Cmp.{first_so, second_so}
use Rattle.std.proofs.Common.{◌≡◌, ℕ, zero, suc, ◌-◌, ◌^◌, ◌<◌, ◌≤◌, nat_eq, ◌==◌, Bool, true, false, if◌then◌else◌, List, [], ◌∷◌, ◌++◌, length, map, slice_get, Option, Some, Result, Ok, Err, ◌⊎◌, inl, inr, refl, sym, ap, ◌∙◌, subst, arith, length-append, append-nil, append_assoc}
use Rattle.std.proofs.lemmas.Bool.{and_from, eq-eqb}
use Rattle.hex.specs.Hex.{IsBytes}
use Rattle.reapi_dir.specs.declared.refusal.DirRefusal.{DirRefusal}
use Rattle.reapi_dir.specs.Grammar.{Fields}
use Rattle.reapi_dir.specs.Reading.{is_new, newest, nodes_read}
use Rattle.reapi_dir.specs.Wire.{Read, begins_with}
use Rattle.reapi_dir.proofs.Order.{all_new}
use Rattle.reapi_dir.proofs.Steps.{nodes_end, nodes_more}
use Rattle.reapi_dir.proofs.WireBack.{both_gave, bytes_back}

-- where a choice gave a value
choice_gave : {A : Type 0} (t : Bool) (r : Result A DirRefusal) (p q : A) → (if t then r else Ok p) ≡ Ok q → ((t ≡ true) × (r ≡ Ok q)) ⊎ (p ≡ q)
choice_gave true r p q h = inl (refl, h)
choice_gave false r p q h = inr (cc)

no_room_gave : {A : Type 0} (t : Bool) (e : DirRefusal) (p q : A) → (if t then Err e else Ok p) ≡ Ok q → p ≡ q
no_room_gave true e p q h = cc
no_room_gave false e p q h = cc

-- the node at the end of a list
at_end : {T : Type 0} (nodes : List T) (node : T) → slice_get (nodes ++ node ∷ []) (length nodes) ≡ Some node
at_end [] node = refl
at_end (x ∷ nodes) node = at_end nodes node

-- the newest name of a list is that of the node that was added last
pub newest_more : {T : Type 0} (name : T → List ℕ) (nodes : List T) (node : T) → newest name (nodes ++ node ∷ []) ≡ Some (name node)
newest_more {T} name nodes node =
    let last : length (nodes ++ node ∷ []) - 1 ≡ length nodes = omega (arith, length-append nodes (node ∷ [])) in
    rw (last, at_end nodes node) refl

-- what is read of a list behind nodes that were read before
pub record Listed {T : Type 0} (name : T → List ℕ) (IsField : List ℕ → T → Type 0) (earlier : List (List ℕ)) (room : ℕ) (nodes all : List T) (bytes rest : List ℕ) : Type 0 where
  pub more : List T
  pub front : List ℕ
  pub all_is : all ≡ nodes ++ more
  pub whole : bytes ≡ front ++ rest
  pub fields : Fields IsField front more
  pub new : all_new earlier (newest name nodes) (map name more) ≡ true
  pub few : length more ≤ room

module _ {T : Type 0} (name : T → List ℕ) (IsField : List ℕ → T → Type 0) (earlier : List (List ℕ)) (key : ℕ) (next : List T → ℕ → List ℕ → Read T) where
  -- what is read as the next node is its field, and its name is new
  abbrev pub NextSpells : Type 0
  NextSpells = (nodes : List T) (end : ℕ) (bytes : List ℕ) (node : T) (rest : List ℕ) → IsBytes bytes → next nodes end bytes ≡ Ok (node, rest)
      → (field : List ℕ) × (bytes ≡ field ++ rest) × IsField field node × (is_new (newest name nodes) earlier (name node) ≡ true)

  -- the field of a node with a new name is read as that node
  abbrev pub NextBack : Type 0
  NextBack = (nodes : List T) (end : ℕ) (field : List ℕ) (node : T) (rest : List ℕ) → IsField field node → is_new (newest name nodes) earlier (name node) ≡ true
      → length field < 2 ^ 64 → next nodes end (field ++ rest) ≡ Ok (node, rest)

  -- a field begins with its key
  abbrev pub BeginsField : Type 0
  BeginsField = (field : List ℕ) (node : T) → IsField field node → (more : List ℕ) × (field ≡ key ∷ more)

  listed_end : (room : ℕ) (nodes all : List T) (bytes rest : List ℕ) → nodes ≡ all → bytes ≡ rest → Listed name IsField earlier room nodes all bytes rest
  listed_end room nodes all bytes rest a b =
      record { more = []; front = []; all_is = sym a ∙ sym (append-nil nodes); whole = b; fields = refl; new = refl; few = omega arith }

  listed_more : (room : ℕ) (nodes all : List T) (bytes rest : List ℕ) (node : T) (field behind : List ℕ) → bytes ≡ field ++ behind → IsField field node
      → is_new (newest name nodes) earlier (name node) ≡ true → Listed name IsField earlier room (nodes ++ node ∷ []) all behind rest
      → Listed name IsField earlier (suc room) nodes all bytes rest
  listed_more room nodes all bytes rest node field behind a is new l = record {
    more = node ∷ l.more;
    front = field ++ l.front;
    all_is = l.all_is ∙ append_assoc nodes (node ∷ []) l.more;
    whole = a ∙ ap (λ (xs : List ℕ). field ++ xs) l.whole ∙ sym (append_assoc field l.front rest);
    fields = (field, l.front, refl, is, l.fields);
    new = and_from (is_new (newest name nodes) earlier (name node)) (all_new earlier (Some (name node)) (map name l.more)) new
        (subst (λ (o : Option (List ℕ)). all_new earlier o (map name l.more) ≡ true) (newest_more name nodes node) l.new);
    few = omega (arith, l.few);
  }

  -- a list that was read has been spelled: the front of the bytes are its fields, its names are new, and they are few enough
  pub nodes_spell : NextSpells → (room : ℕ) (nodes all : List T) (end : ℕ) (bytes rest : List ℕ) → IsBytes bytes
      → nodes_read key next room nodes end bytes ≡ Ok (all, rest) → Listed name IsField earlier room nodes all bytes rest
  unfolding nodes_read
  nodes_spell spells zero nodes all end bytes rest h read =
      let same = no_room_gave (begins_with key bytes) _ (nodes, bytes) (all, rest) read in
      listed_end 0 nodes all bytes rest (ap (λ (p : List T × List ℕ). p.0) same) (ap (λ (p : List T × List ℕ). p.1) same)
  nodes_spell spells (suc room) nodes all end bytes rest h read =
      elim (choice_gave {A = List T × List ℕ} (begins_with key bytes) _ (nodes, bytes) (all, rest) read) [
        | inl more ↦
            let steps = both_gave {A = T × List ℕ} _ _ _ more.1 in
            let field = spells nodes end bytes steps.0.0 steps.0.1 h steps.1 in
            listed_more room nodes all bytes rest steps.0.0 field.0 steps.0.1 field.1 field.2 field.3
            (nodes_spell spells room (nodes ++ steps.0.0 ∷ []) all end steps.0.1 rest (bytes_back field.0 steps.0.1 (subst IsBytes field.1 h)) steps.2)
        | inr same ↦ listed_end (suc room) nodes all bytes rest (ap (λ (p : List T × List ℕ). p.0) same) (ap (λ (p : List T × List ℕ). p.1) same)
      ]

  -- the fields of nodes with new names, as few as there is room for, are read as these nodes
  pub nodes_back : NextBack → BeginsField → (more : List T) (room : ℕ) (nodes : List T) (end : ℕ) (front rest : List ℕ) → Fields IsField front more
      → all_new earlier (newest name nodes) (map name more) ≡ true → length more ≤ room → length front < 2 ^ 64 → begins_with key rest ≡ false
      → nodes_read key next room nodes end (front ++ rest) ≡ Ok (nodes ++ more, rest)
  nodes_back back begins [] room nodes end front rest none new few short stop =
      rw none (nodes_end key next room nodes end rest stop ∙ ap (λ (xs : List T). Ok (xs, rest)) (sym (append-nil nodes)))
  nodes_back back begins (node ∷ more) zero nodes end front rest fields new few short stop = absurd (omega arith)
  nodes_back back begins (node ∷ more) (suc room) nodes end front rest (field, behind, whole, is, fields) new few short stop =
      let first = begins field node is in
      let all : front ++ rest ≡ field ++ (behind ++ rest) = ap (λ (xs : List ℕ). xs ++ rest) whole ∙ append_assoc field behind rest in
      let starts : begins_with key (field ++ (behind ++ rest)) ≡ true = rw first.1 (same_key key) in
      let len = ap length whole in
      let sizes = length-append field behind in
      let fresh = first_so (is_new (newest name nodes) earlier (name node)) (all_new earlier (Some (name node)) (map name more)) new in
      let others = second_so (is_new (newest name nodes) earlier (name node)) (all_new earlier (Some (name node)) (map name more)) new in
      let read = back nodes end field node (behind ++ rest) is fresh (omega arith) in
      let step = nodes_more key next room nodes end (field ++ (behind ++ rest)) node (behind ++ rest) starts read in
      let tail = nodes_back back begins more room (nodes ++ node ∷ []) end behind rest fields
      (subst (λ (o : Option (List ℕ)). all_new earlier o (map name more) ≡ true) (sym (newest_more name nodes node)) others) (omega arith) (omega arith) stop in
      ap (nodes_read key next (suc room) nodes end) all ∙ step ∙ tail ∙ ap (λ (xs : List T). Ok (xs, rest)) (append_assoc nodes (node ∷ []) more)
    where
      same_key : (k : ℕ) → (k == k) ≡ true
      same_key k = eq-eqb k k refl

-- a field begins with another key
abbrev pub BeginsOther : {T : Type 0} → (List ℕ → T → Type 0) → ℕ → Type 0
BeginsOther {T} IsField other = (field : List ℕ) (node : T) → IsField field node → (more : List ℕ) × (field ≡ other ∷ more)

-- a key does not begin bytes that are fields with another key, where it does not begin what is behind them
pub begins_other : {T : Type 0} (IsField : List ℕ → T → Type 0) (other key : ℕ) → BeginsOther IsField other → nat_eq other key ≡ false
    → (more : List T) (front rest : List ℕ) → Fields IsField front more → begins_with key rest ≡ false → begins_with key (front ++ rest) ≡ false
begins_other IsField other key begins apart [] front rest none h = rw none h
begins_other IsField other key begins apart (node ∷ more) front rest (field, behind, whole, is, fields) h =
    let first = begins field node is in
    rw (whole, first.1) apart
