-- What a run's store holds.
use Rattle.std.proofs.Common.{◌≡◌, ℕ, ◌<◌, ◌==◌, ◌&&◌, nat_lt, Bool, true, false, List, ◌++◌, Some, None, cond, Less, Equal, Greater, refl, sym, ap, ap₂, ◌∙◌, arith}
use Rattle.std.specs.Cmp.{nat_cmp_is}
use Rattle.std.specs.Ordering.{is_eq, nat_cmp, ordering_then}
use Rattle.std.proofs.lemmas.Bool.Decides.{nat_tests}
use Rattle.std.proofs.lemmas.Map.Text.{is_eq-slice_cmp}
use Rattle.mat_digest.specs.declared.digest.Digest.{Digest}
use Rattle.mat_path.specs.Names.{name_cmp, same_name}
use Rattle.mat_tree.specs.Parts.{Part, bare}
use Rattle.mat_tree.specs.Trees.{same_digest}
use Rattle.fetch_port.specs.declared.mem_store.MemStore.{MemStore}
use Rattle.fetch_port.specs.Fetches.{Blobs}
use Rattle.fetch_port.specs.Keys.{key_cmp, key_of}
use Rattle.fetch_port.specs.Memory.{HasPut, IsUncalled, blobs_of}
use Rattle.script_lang.specs.declared.told.Said.TheVariants as said
use Rattle.buckd.specs.declared.daemon.Daemon.{Daemon}
use Rattle.buckd.specs.Daemon.{Tells, point_of, scene_of}
use Rattle.buckd.specs.Making.{shown_by}
use Rattle.buckd.specs.Run.{Point, Scene, no_blobs, start, start_point, tell_stored, with_blob}
use Rattle.buckd.specs.Texts.{said_line}
use Rattle.buckd.proofs.MakeLemmas.{same_digest_true}
use Rattle.region_port.specs.Disks.{disk_content}
use Rattle.region_port.specs.declared.mem_disk.MemDisk.{MemDisk}

-- numbers that differ don't compare as equal
sizes_differ : (m n : ℕ) → (m == n) ≡ false → is_eq (nat_cmp m n) ≡ false
sizes_differ m n off =
    elim (nat_lt m n) as (λ b. nat_lt m n ≡ b → is_eq (nat_cmp m n) ≡ false) [
      | true ↦ λ less. ap is_eq (sym (nat_cmp_is m n Less (below less)))
      | false ↦ λ more. ap is_eq (sym (nat_cmp_is m n Greater (above more)))
    ] refl
  where
    below : nat_lt m n ≡ true → m < n
    below less = grind (arith, nat_tests)

    above : nat_lt m n ≡ false → n < m
    above more = grind (arith, nat_tests)

-- digests that differ don't compare as equal
digests_differ : (a b : Digest) → same_digest a b ≡ false → is_eq (key_cmp (key_of a) (key_of b)) ≡ false
digests_differ a b off =
    elim (name_cmp a.hash b.hash) as (λ o. name_cmp a.hash b.hash ≡ o → is_eq (ordering_then o (nat_cmp a.size b.size)) ≡ false) [
      | Less ↦ λ is. refl
      | Equal ↦ λ is.
          sizes_differ a.size b.size
          (second (same_name a.hash b.hash) (a.size == b.size) off (sym (is_eq-slice_cmp a.hash b.hash) ∙ ap is_eq is))
      | Greater ↦ λ is. refl
    ] refl
  where
    second : (x y : Bool) → (x && y) ≡ false → x ≡ true → y ≡ false
    second true y both first = both
    second false y both first = absurd cc

-- a store holds what was put under a digest, and else what it held
pub put-blobs : (digest : Digest) (bytes : List ℕ) (old new : MemStore) → HasPut digest bytes old new →
    blobs_of new ≡ with_blob digest bytes (blobs_of old)
put-blobs digest bytes old new put =
    let each : (other : Digest) → blobs_of new other ≡ with_blob digest bytes (blobs_of old) other = λ other.
    elim (same_digest digest other) as
    (λ b. same_digest digest other ≡ b → blobs_of new other ≡ cond b (Some bytes) (blobs_of old other)) [
      | true ↦ λ same. ap (λ (d : Digest). blobs_of new d) (sym (same_digest_true digest other same)) ∙ put.found
      | false ↦ λ off. put.others other (digests_differ digest other off)
    ] refl in
    λ i q. each q i

-- bytes were put into the store of a daemon, and told
pub told-stored : (digest : Digest) (bytes : List ℕ) (old new : Daemon) (first last : List ℕ) → HasPut digest bytes old.store new.store →
    IsUncalled old.store new.store → point_of new ≡ point_of old → new.disk ≡ old.disk → last ≡ first ++ said_line (said.Stored digest) →
    Tells (tell_stored digest bytes (scene_of old)) new first last
told-stored digest bytes old new first last put calls point disk is = record {
  text = is;
  scene = ap₂ (λ (p : Point) (bs : Blobs). let s : Scene = record {
    point = p;
    blobs = bs;
    asks = new.store.asks;
    disk = shown_by (disk_content new.disk);
  } in s) point (put-blobs digest bytes old.store new.store put)
      ∙ ap₂ (λ (n : ℕ) (k : MemDisk). let s : Scene = record {
        point = point_of old;
        blobs = with_blob digest bytes (blobs_of old.store);
        asks = n;
        disk = shown_by (disk_content k);
      } in s) calls.asks disk;
}

-- a daemon that begins is where a run begins
pub new-scene : (d : Daemon) → point_of d ≡ start_point → ((digest : Digest) → blobs_of d.store digest ≡ None) → d.store.asks ≡ 0 →
    disk_content d.disk ≡ bare → scene_of d ≡ start
new-scene d point blobs asks content =
    let none : blobs_of d.store ≡ no_blobs = λ i digest. blobs digest i in
    ap₂ (λ (p : Point) (bs : Blobs). let s : Scene = record { point = p; blobs = bs; asks = d.store.asks; disk = shown_by (disk_content d.disk) } in s)
    point none
    ∙ ap₂ (λ (n : ℕ) (part : Part). let s : Scene = record { point = start_point; blobs = no_blobs; asks = n; disk = shown_by part } in s) asks content
