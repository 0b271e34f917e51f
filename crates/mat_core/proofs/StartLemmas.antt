-- A core that begins with an opening keeps its rules.
use Rattle.std.proofs.Common.{◌≡◌, ◌≤◌, ◌<◌, ◌^◌, ◌+◌, ℕ, Bool, true, false, inl, inr, not, List, [], ◌∷◌, ◌++◌, length, map, filter, Option, Some, None, Contains, refl, sym, ap, subst, ◌∙◌, arith}
use Rattle.std.specs.Option.{ForSome, option_map}
use Rattle.std.proofs.lemmas.List.{append-nil}
use Rattle.std.proofs.lemmas.List.Elements.{All-contains}
use Rattle.mat_path.proofs.Elements.{contains_cases, contains_first, contains_map, none_passes}
use Rattle.mat_tree.specs.Parts.{HasTree, Part, below}
use Rattle.mat_model.specs.declared.book.Book.{Book}
use Rattle.mat_model.specs.declared.book.Row.{Row}
use Rattle.mat_model.specs.declared.entries.Entry.{Entry}
use Rattle.mat_model.specs.declared.opening.Opening.{Opening}
use Rattle.mat_model.specs.declared.limits.Limits.{Limits}
use Rattle.mat_model.specs.History.{opened}
use Rattle.mat_model.specs.WorkState.{Job}
use Rattle.mat_model.specs.Kept.{KeptRow}
use Rattle.mat_model.specs.Openings.{IsOpening, is_found, is_lost, kept_at_opening, path_of_row}
use Rattle.model_laws.specs.KeptRules.{path_of_kept}
use Rattle.model_laws.proofs.ListTests.{filter_none}
use Rattle.model_laws.proofs.WorkKept.{opening_work}
use Rattle.region_port.specs.Calls.{Paths}
use Rattle.region_port.specs.Strays.{AreTold}
use Rattle.keep_port.specs.declared.row.RawRow.{RawRow}
use Rattle.core_laws.specs.Covered.{rough_places}
use Rattle.core_laws.specs.DiskRules.{IsDisk, IsTiedDisk}
use Rattle.core_laws.specs.Loans.{AreLoans}
use Rattle.core_laws.specs.Stored.{IsReadable, IsStore, raw_row}
use Rattle.core_laws.specs.Tied.{IsTreeAt}
use Rattle.core_laws.specs.Whole.{IsWhole, IsWholeRow}
use Rattle.core_laws.proofs.CountLemmas.{none_counted}
use Rattle.core_laws.proofs.OpeningLemmas.{none_out, opening_covered, opening_tied, settled_within}
use Rattle.core_laws.proofs.RuleMoves.{opened_tied, same_disk}
use Rattle.core_laws.proofs.TiedLemmas.{tree_stays}
use Rattle.core_laws.specs.Places.{IsSameBelow}
use Rattle.restart_scan.specs.Looks.{HasStill, TellsTreeAt}
use Rattle.restart_scan.specs.Scans.{known_paths, less}
use Rattle.restart_scan.specs.Stores.{Stores, kept_rows_of}
use Rattle.core_laws.proofs.StoreReads.{kept_alike}
use Rattle.job_book.specs.Jobs.{jobs_of}
use Rattle.job_book.specs.declared.running.Running.{Running}
use Rattle.mat_core.specs.Begun.{AreFound}
use Rattle.mat_core.specs.Books.{StandFor}
use Rattle.mat_core.specs.Cores.{AreDevices, AreLimits, IsCore, IsSeen, IsSound, MaySpeak, MaySpeakFor, Seen, each_stamp, seen_of}
use Rattle.core_devices.specs.Told.{ToldDisk, ToldStore}
use Rattle.mat_core.specs.Rooms.{HasReserves}
use Rattle.mat_core.specs.declared.base.Base.{Base}
use Rattle.mat_core.specs.declared.parts.Parts.{Parts}

-- ---- kept rows

-- a state store of one row
one_stored : (identity : ℕ) (one : KeptRow) (raw : RawRow) → IsReadable one → raw ≡ raw_row identity one → IsStore identity (one ∷ []) (raw ∷ [])
one_stored identity one raw tree same = record {
  order = refl;
  each = λ other among. elim (contains_cases one [] other among) [
    | inl is ↦ subst (λ (r : RawRow). Contains (raw ∷ []) r) (same ∙ ap (raw_row identity) is) (contains_first raw [])
    | inr (k, within, at) ↦ absurd (omega (arith, within))
  ];
  others = λ other among. elim (contains_cases raw [] other among) [
    | inl is ↦ record { one = one; among = contains_first one []; same = sym is ∙ same }
    | inr (k, within, at) ↦ absurd (omega (arith, within))
  ];
  readable = λ other among. elim (contains_cases one [] other among) [
    | inl is ↦ subst IsReadable is tree
    | inr (k, within, at) ↦ absurd (omega (arith, within))
  ];
}

-- kept rows that a state store has as one row are one
same_kept : (identity : ℕ) (one other : KeptRow) → identity < 2 ^ 64 → IsReadable one → IsReadable other → raw_row identity one ≡ raw_row identity other →
    one ≡ other
same_kept identity one other small tree its same =
    let alike : one ∷ [] ≡ other ∷ [] =
    kept_alike identity (one ∷ []) (other ∷ []) (raw_row identity one ∷ []) small refl refl (one_stored identity one (raw_row identity one) tree refl)
    (one_stored identity other (raw_row identity one) its same) in
    cc

-- kept rows of a state store are whole where others of it are
whole_again : (identity : ℕ) (kept others : List KeptRow) (rows : List RawRow) (content : Part) (rough : Paths) → identity < 2 ^ 64 →
    IsStore identity kept rows → IsStore identity others rows → IsWhole [] others content rough → IsWhole [] kept content rough
whole_again identity kept others rows content rough small store other whole =
    λ one among.
    let of = other.others (raw_row identity one) (store.each one among) in
    let same : one ≡ of.one =
    same_kept identity one of.one small (store.readable one among) (other.readable of.one of.among) of.same in
    subst (IsWholeRow [] content rough) (sym same) (whole of.one of.among)

-- where kept rows are whole none of them is lost, as the disk has the tree of none that is lost
pub none_lost : (identity : ℕ) (kept others : List KeptRow) (rows : List RawRow) (content : Part) (rough : Paths) (lost : List (List (List ℕ))) →
    identity < 2 ^ 64 → IsStore identity kept rows → IsStore identity others rows → IsWhole [] others content rough →
    lost ≡ map path_of_kept (filter (is_lost lost) kept) →
    ((one : KeptRow) → Contains kept one → is_lost lost one ≡ true → HasTree (below one.path content) one.tree → ⊥) → lost ≡ []
none_lost identity kept others rows content rough lost small store other whole order gone =
    let all = whole_again identity kept others rows content rough small store other whole in
    order ∙ ap (map path_of_kept) (filter_none (is_lost lost) kept (none_passes (is_lost lost) kept (λ one among. by all one among (is_lost lost one) refl)))
  where
    by : IsWhole [] kept content rough → (one : KeptRow) → Contains kept one → (b : Bool) → is_lost lost one ≡ b → is_lost lost one ≡ false
    by all one among true is = absurd (gone one among is ((all one among).tree refl))
    by all one among false is = is

-- ---- devices

none_lent : AreLoans [] []
none_lent = record { out = λ loan among. among; ours = λ loan among. among }

-- the stamps of an opening's rows are below the number of the first entry
stamps_below : (opening : Opening) (row : Row) → IsOpening opening → Contains opening.rows row → length opening.rows ≤ row.stamp → ⊥
stamps_below opening row right among late =
    let below = All-contains (λ (r : Row). r.stamp < length opening.rows + 0) opening.rows row (opening_work opening right).stamped.below among in
    omega (arith, below, late)

-- a state store that tells its rows has them
stores_some : (identity : ℕ) (told : Option (List RawRow)) (kept : List KeptRow) → Stores identity told kept → ForSome told (IsStore identity kept)
stores_some identity None kept stores rows is = absurd cc
stores_some identity (Some raws) kept stores rows is = let same : raws ≡ rows = cc in subst (IsStore identity kept) same stores

module _ (identity : ℕ) (check : Bool) (opening : Opening) (old new : ToldDisk) (had has : ToldStore) (small : identity < 2 ^ 64) (right : IsOpening opening)
    (found : AreFound identity check opening old new had has) where
  -- where the devices were whole nothing is lost
  none_gone : IsSound identity old had → opening.lost ≡ []
  none_gone sound =
      elim check as (λ b. check ≡ b → opening.lost ≡ []) [
        | true ↦ λ on.
            let these = found.gone on sound.rows sound.listed in
            none_lost identity these.kept sound.kept sound.rows sound.content old.rough opening.lost small these.stored sound.stored sound.whole
            these.gone.order
            (λ one among lies.
            subst (λ b. TellsTreeAt one.path one.tree (Some sound.content) b) (ap not lies)
            (subst (λ o. TellsTreeAt one.path one.tree o (is_found opening.lost one)) sound.told (these.gone.each one among)))
        | false ↦ λ off. found.unlooked off
      ] refl

  left_rows : (sound : IsSound identity old had) → has.rows ≡ Some sound.rows
  left_rows sound =
      found.left ∙ ap (λ (l : List (List (List ℕ))). option_map (less l) had.rows) (none_gone sound) ∙ ap (option_map (less [])) sound.listed

  -- then the rows of the opening are whole, as they were kept
  opened_whole : (sound : IsSound identity old had) → IsWhole [] (opened opening).kept sound.content old.rough
  opened_whole sound =
      whole_again identity (opened opening).kept sound.kept sound.rows sound.content old.rough small
      (subst (λ o. Stores identity o (kept_rows_of opening)) (left_rows sound) found.store) sound.stored sound.whole

  old_disk : (sound : IsSound identity old had) → IsDisk each_stamp (opened opening) [] sound.content old.rough
  old_disk sound = record {
    loans = none_lent;
    out = none_out sound.content old.rough;
    tied = opening_tied each_stamp opening sound.content old.rough (opened_whole sound);
    covered = opening_covered opening (known_paths opening) sound.content old.rough right (none_gone sound)
        (λ path among. subst (λ (l : List (List (List ℕ))). Contains l path) (append-nil (map path_of_row opening.rows))
        (subst (λ (l : List (List (List ℕ))). Contains (map path_of_row opening.rows ++ l) path) (none_gone sound) among))
        (subst (λ o. AreTold (known_paths opening) o opening.strays) sound.told found.strays) (opened_whole sound);
    settled = settled_within (rough_places (opened opening).work) old.rough sound.settled;
    whole = opened_whole sound;
  }

  -- the disk has, place by place, what it had
  still : (sound : IsSound identity old had) (content : Part) → new.content ≡ Some content → (place : List (List ℕ)) →
      IsSameBelow place sound.content old.rough content new.rough
  still sound content told place = record {
    node = λ path under.
        subst (λ o. HasStill o (Some content)) sound.told (subst (λ o. HasStill old.content o) told found.content) path;
    rough = λ path under. elim (found.rough path) [ inl same ↦ same | inr settled ↦ settled ∙ sym (sound.settled path) ];
  }

  sound_disk : (sound : IsSound identity old had) (content : Part) → new.content ≡ Some content →
      IsDisk each_stamp (opened opening) [] content new.rough
  sound_disk sound content told =
      same_disk each_stamp (opened opening) [] sound.content content old.rough new.rough (still sound content told []) (old_disk sound)

  -- each row has its tree whose stamp may be spoken for
  row_there : (content : Part) → new.content ≡ Some content → (row : Row) → Contains opening.rows row →
      MaySpeak (length opening.rows) check (IsSound identity old had) row.stamp → IsTreeAt row.path row.tree content new.rough
  row_there content told row among (inl late) = absurd (stamps_below opening row right among late)
  row_there content told row among (inr (inl checked)) =
      let is = found.checked checked row among in
      record { tree = subst (λ o. TellsTreeAt row.path row.tree o true) told is.tree; settled = is.settled }
  row_there content told row among (inr (inr sound)) =
      let kept = opened_whole sound (kept_at_opening opening row) (contains_map (kept_at_opening opening) opening.rows row among) in
      tree_stays row.path row.tree sound.content content old.rough new.rough (still sound content told row.path)
      (record { tree = kept.tree refl; settled = λ path under. sound.settled path })

  devices : AreDevices identity (length opening.rows) check (IsSound identity old had) (opened opening) new has
  devices = record {
    loans = subst (AreLoans []) (sym found.free) none_lent;
    tied = λ content told spoken may.
        subst (λ lent. IsTiedDisk spoken (opened opening) lent content new.rough) (sym found.free)
        (opened_tied spoken opening content new.rough (λ row among said. row_there content told row among (may row.stamp said)));
    sound = λ sound content told.
        subst (λ lent. IsDisk each_stamp (opened opening) lent content new.rough) (sym found.free) (sound_disk sound content told);
    store = stores_some identity has.rows (kept_rows_of opening) found.store;
    counted = none_counted has.faults new.faults;
  }

-- ---- the core

-- parts that begin have reserved what is needed, which is nothing
begun_reserves : {D K : Type 0} (parts : Parts D K) (opening : Opening) → StandFor parts (opened opening) → parts.jobs ≡ [] → HasReserves parts
begun_reserves parts opening stands jobs = record {
  history =
      let entries : length parts.history.items ≡ 0 = ap length stands.history in
      let running : length parts.jobs ≡ 0 = ap length jobs in
      let live : length parts.gate.live ≡ 0 = ap (λ (b : Book). length b.live) stands.book in
      let waiting : length parts.gate.waiting ≡ 0 = ap (λ (b : Book). length b.waiting) stands.book in
      omega (arith, entries, running, live, waiting);
  debris = let running : length parts.jobs ≡ 0 = ap length jobs in omega (arith, running);
  places = λ job among.
      let (k, within, at) = subst (λ (js : List Job). Contains js job) (ap jobs_of jobs) among in absurd (omega (arith, within));
}

-- a core begins right whose parts stand for its opening
pub core_begun : {D K : Type 0} (told : D → ToldDisk) (stored : K → ToldStore) (parts : Parts D K) → AreLimits parts.base.limits →
    IsOpening parts.base.opening.value → length parts.base.opening.value.rows ≤ parts.base.limits.rows → parts.base.identity < 2 ^ 64 →
    AreFound parts.base.identity parts.base.check parts.base.opening.value (told parts.base.disk.value) (told parts.disk) (stored parts.base.keeper.value)
    (stored parts.keeper) →
    StandFor parts (opened parts.base.opening.value) → parts.jobs ≡ [] → parts.lost ≡ parts.base.opening.value.lost → IsCore told stored parts
core_begun {D} {K} told stored parts limits right within small found stands jobs lost = record {
  reserves = begun_reserves parts parts.base.opening.value stands jobs;
  lost = lost;
  ready = λ running among. absurd (nobody running (subst (λ (rs : List Running). Contains rs running) jobs among));
  seen = subst (IsSeen told stored) (sym bare) (record {
    limits = limits;
    opening = right;
    within = within;
    legal = tt;
    devices = devices parts.base.identity parts.base.check parts.base.opening.value (told parts.base.disk.value) (told parts.disk)
        (stored parts.base.keeper.value) (stored parts.keeper) small right found;
  });
  stands = subst (λ (s : Seen D K). StandFor parts (Rattle.mat_core.specs.Cores.point_in s)) (sym bare) stands;
}
  where
    empty : Seen D K
    empty = record { base = parts.base; history = []; disk = parts.disk; keeper = parts.keeper }

    nobody : (running : Running) → Contains [] running → ⊥
    nobody running (k, within, at) = omega (arith, within)

    bare : seen_of parts ≡ empty
    bare = ap (λ (h : List Entry). record { base = parts.base; history = h; disk = parts.disk; keeper = parts.keeper }) stands.history

-- the same of a core whose base is these, and whose opening is this
pub core_started : {D K : Type 0} (told : D → ToldDisk) (stored : K → ToldStore) (parts : Parts D K) (base : Base D K) (limits : Limits)
    (opening : Opening) (disk : D) (keeper : K) → parts.base ≡ base → base.limits ≡ limits → base.opening.value ≡ opening → base.disk.value ≡ disk →
    base.keeper.value ≡ keeper → AreLimits limits → IsOpening opening → length opening.rows ≤ limits.rows → base.identity < 2 ^ 64 →
    AreFound base.identity base.check opening (told disk) (told parts.disk) (stored keeper) (stored parts.keeper) → StandFor parts (opened opening) →
    parts.jobs ≡ [] → parts.lost ≡ opening.lost → IsCore told stored parts
core_started {D} {K} told stored parts base limits opening disk keeper is_base is_limits is_opening is_disk is_keeper allowed right within small found
    stands jobs lost =
    let o : parts.base.opening.value ≡ opening = ap (λ (b : Base D K). b.opening.value) is_base ∙ is_opening in
    let l : parts.base.limits ≡ limits = ap (λ (b : Base D K). b.limits) is_base ∙ is_limits in
    let rows : length parts.base.opening.value.rows ≡ length opening.rows = ap (λ (x : Opening). length x.rows) o in
    let most : parts.base.limits.rows ≡ limits.rows = ap (λ (x : Limits). x.rows) l in
    core_begun told stored parts (subst AreLimits (sym l) allowed) (subst IsOpening (sym o) right) (omega (arith, rows, most, within))
    (subst (λ (b : Base D K). b.identity < 2 ^ 64) (sym is_base) small)
    (subst (λ (b : Base D K). AreFound b.identity b.check b.opening.value (told b.disk.value) (told parts.disk) (stored b.keeper.value)
    (stored parts.keeper)) (sym is_base)
    (subst (λ (x : Opening). AreFound base.identity base.check x (told base.disk.value) (told parts.disk) (stored base.keeper.value)
    (stored parts.keeper)) (sym is_opening)
    (subst (λ (d : D). AreFound base.identity base.check opening (told d) (told parts.disk) (stored base.keeper.value) (stored parts.keeper))
    (sym is_disk)
    (subst (λ (k : K). AreFound base.identity base.check opening (told disk) (told parts.disk) (stored k) (stored parts.keeper)) (sym is_keeper)
    found))))
    (subst (λ (x : Opening). StandFor parts (opened x)) (sym o) stands) jobs (lost ∙ ap (λ (x : Opening). x.lost) (sym o))
