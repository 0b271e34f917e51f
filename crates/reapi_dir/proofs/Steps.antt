-- The steps by which a list of nodes is read.
use Rattle.std.proofs.Common.{◌≡◌, ℕ, zero, suc, ◌-◌, true, false, List, [], ◌∷◌, ◌++◌, Ok, Err, ◌⊎◌, inl, inr, refl, ◌∙◌, arith}
use Rattle.reapi_dir.specs.declared.refusal.DirRefusal.{DirRefusal}
use Rattle.reapi_dir.specs.declared.refusal.DirRefusal.TheVariants as refusal
use Rattle.reapi_dir.specs.Reading.{nodes_read}
use Rattle.reapi_dir.specs.Wire.{Read, begins_with, place}

module _ {T : Type 0} (key : ℕ) (next : List T → ℕ → List ℕ → Read T) where
  -- where the key doesn't come, the list ends with the nodes that were read before
  pub nodes_end : (room : ℕ) (nodes : List T) (end : ℕ) (bytes : List ℕ) → begins_with key bytes ≡ false
      → nodes_read key next room nodes end bytes ≡ Ok (nodes, bytes)
  unfolding nodes_read
  nodes_end zero nodes end bytes h = rw h refl
  nodes_end (suc room) nodes end bytes h = rw h refl

  -- where it comes and there is no room, its place is refused as one child too many
  pub nodes_many : (nodes : List T) (end : ℕ) (bytes : List ℕ) → begins_with key bytes ≡ true
      → nodes_read key next 0 nodes end bytes ≡ Err (refusal.Many (place end bytes))
  unfolding nodes_read
  nodes_many nodes end bytes h = rw h refl

  -- where it comes before a node, reading goes on behind that node
  pub nodes_more : (room : ℕ) (nodes : List T) (end : ℕ) (bytes : List ℕ) (node : T) (behind : List ℕ) → begins_with key bytes ≡ true
      → next nodes end bytes ≡ Ok (node, behind)
      → nodes_read key next (suc room) nodes end bytes ≡ nodes_read key next room (nodes ++ node ∷ []) end behind
  unfolding nodes_read
  nodes_more room nodes end bytes node behind h read = rw (h, read) refl

  -- where it comes before a fault, this is the answer
  pub nodes_fault : (room : ℕ) (nodes : List T) (end : ℕ) (bytes : List ℕ) (e : DirRefusal) → begins_with key bytes ≡ true
      → next nodes end bytes ≡ Err e → nodes_read key next (suc room) nodes end bytes ≡ Err e
  unfolding nodes_read
  nodes_fault room nodes end bytes e h read = rw (h, read) refl

  -- the same where the room is known not to be 0
  pub nodes_step : (room : ℕ) (nodes : List T) (end : ℕ) (bytes : List ℕ) (node : T) (behind : List ℕ) → (room ≡ 0 → ⊥)
      → begins_with key bytes ≡ true → next nodes end bytes ≡ Ok (node, behind)
      → nodes_read key next room nodes end bytes ≡ nodes_read key next (room - 1) (nodes ++ node ∷ []) end behind
  nodes_step zero nodes end bytes node behind some h read = absurd (some refl)
  nodes_step (suc room) nodes end bytes node behind some h read =
      let less : suc room - 1 ≡ room = omega arith in
      rw less (nodes_more room nodes end bytes node behind h read)

  -- the same of a fault, where the room is known not to be 0
  pub nodes_stop : (room : ℕ) (nodes : List T) (end : ℕ) (bytes : List ℕ) (e : DirRefusal) → (room ≡ 0 → ⊥)
      → begins_with key bytes ≡ true → next nodes end bytes ≡ Err e → nodes_read key next room nodes end bytes ≡ Err e
  nodes_stop zero nodes end bytes e some h read = absurd (some refl)
  nodes_stop (suc room) nodes end bytes e some h read = nodes_fault room nodes end bytes e h read

  -- a fault in the next node is that of the whole list, or memory is wanting
  pub list_has_fault : (all : Read (List T)) (room : ℕ) (nodes : List T) (end : ℕ) (bytes : List ℕ) (e : DirRefusal) → all ≡ nodes_read key next room nodes end bytes
      → (room ≡ 0 → ⊥) → begins_with key bytes ≡ true → (e ≡ refusal.NoMemory) ⊎ (next nodes end bytes ≡ Err e)
      → (e ≡ refusal.NoMemory) ⊎ (all ≡ Err e)
  list_has_fault all room nodes end bytes e kept some h (inl memory) = inl memory
  list_has_fault all room nodes end bytes e kept some h (inr fault) = inr (kept ∙ nodes_stop room nodes end bytes e some h fault)

  -- where the key doesn't come, the whole list is what was read before
  pub list_ends : (all : Read (List T)) (room : ℕ) (nodes : List T) (end : ℕ) (bytes : List ℕ) → all ≡ nodes_read key next room nodes end bytes
      → begins_with key bytes ≡ false → all ≡ Ok (nodes, bytes)
  list_ends all room nodes end bytes kept h = kept ∙ nodes_end room nodes end bytes h

  -- where it comes and there is no room, the whole list is refused at that place
  pub list_is_full : (all : Read (List T)) (room : ℕ) (nodes : List T) (end : ℕ) (bytes : List ℕ) → all ≡ nodes_read key next room nodes end bytes
      → room ≡ 0 → begins_with key bytes ≡ true → all ≡ Err (refusal.Many (place end bytes))
  list_is_full all room nodes end bytes kept none h = kept ∙ rw none (nodes_many nodes end bytes h)

  -- the whole list is read on behind the next node
  pub list_goes_on : (all : Read (List T)) (room : ℕ) (nodes : List T) (end : ℕ) (bytes : List ℕ) (node : T) (behind : List ℕ) (with_node : List T)
      → all ≡ nodes_read key next room nodes end bytes → (room ≡ 0 → ⊥) → begins_with key bytes ≡ true → next nodes end bytes ≡ Ok (node, behind)
      → with_node ≡ nodes ++ node ∷ [] → all ≡ nodes_read key next (room - 1) with_node end behind
  list_goes_on all room nodes end bytes node behind with_node kept some h read is =
      kept ∙ rw is (nodes_step room nodes end bytes node behind some h read)
