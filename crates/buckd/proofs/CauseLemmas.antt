-- Each make of a run that failed did so for what the store held when the line came that made it.
use Rattle.std.proofs.Common.{◌≡◌, ℕ, ◌<◌, ◌≤◌, ◌⊎◌, inl, inr, Bool, true, false, cond, List, [], ◌∷◌, ◌++◌, length, Option, Some, None, IfSome, refl, sym, ◌∙◌, ap, subst, append_assoc}
use Rattle.std.specs.List.{slice_get}
use Rattle.std.specs.Option.{option_map}
use Rattle.std.proofs.lemmas.Option.{slice_get_within}
use Rattle.mat_model.specs.declared.entries.Entry.{Entry}
use Rattle.mat_model.specs.declared.entries.Event.{Event}
use Rattle.mat_model.specs.declared.entries.Event.TheVariants as event
use Rattle.mat_model.specs.declared.entries.Task.TheVariants as task
use Rattle.mat_model.specs.declared.requests.Asked.{Asked}
use Rattle.mat_model.specs.Requests.{serve}
use Rattle.script_lang.specs.declared.items.Item.{Item}
use Rattle.script_lang.specs.declared.items.Item.TheVariants as item
use Rattle.script_lang.specs.declared.items.Line.{Line}
use Rattle.script_lang.specs.declared.items.Line.TheVariants as line
use Rattle.buckd.specs.declared.daemon.Run.{Run}
use Rattle.buckd.specs.declared.replay.Ended.{Ended}
use Rattle.buckd.specs.Causes.{AreCaused, event_of, IsCaused}
use Rattle.buckd.specs.Lines.{line_of}
use Rattle.buckd.specs.Replay.{IsAt, IsCausedBy, run_at}
use Rattle.buckd.specs.Run.{Point, Scene, ask, asked_of, entry_at, is_not_yet, next, empty_context, start, tell, tell_asked, tell_item, tell_lines, told_not_yet}
use Rattle.buckd.proofs.FollowingRuns.{start-at, tell_lines-at}
use Rattle.buckd.proofs.MakeCauses.{Adds, adds-none, adds-push, drain-adds, EndsSo}
use Rattle.buckd.proofs.RunLemmas.{tell_scene}

-- ---- lines

-- a request that is served adds no end of a job
ask-adds : (request : Asked) (scene : Scene) → Adds scene (ask request scene.point).point.history
ask-adds request scene =
    adds-push scene scene.point.history
    (entry_at (length scene.point.history) (event.Asked request) (serve (next scene.point) 0 empty_context request scene.point.book).reply)
    (adds-none scene) tt

-- what an item adds has its cause in the scene before it
tell_item-adds : (it : Item) (scene : Scene) → scene.point.book.first ≡ 0 → Adds scene (tell_item it scene).scene.point.history
tell_item-adds (item.Request asked) scene first = by_test (is_not_yet asked scene.point.book)
  where
    by_test : (b : Bool) → Adds scene (cond b (told_not_yet scene) (tell_asked (asked_of asked) scene)).scene.point.history
    by_test true = adds-none scene
    by_test false = ask-adds (asked_of asked) scene
tell_item-adds item.Drain scene first = drain-adds scene first
tell_item-adds (item.Show path) scene first = adds-none scene
tell_item-adds (item.Blob bytes) scene first = adds-none scene
tell_item-adds (item.Lie digest bytes) scene first = adds-none scene
tell_item-adds (item.At moment) scene first = adds-none scene
tell_item-adds (item.Step worker) scene first = adds-none scene
tell_item-adds item.Asks scene first = adds-none scene
tell_item-adds (item.Fail device k) scene first = adds-none scene
tell_item-adds (item.Stop k pick) scene first = adds-none scene
tell_item-adds item.Restart scene first = adds-none scene

-- and so has what a line adds
tell-adds : (read : Line) (scene : Scene) → scene.point.book.first ≡ 0 → Adds scene (tell read scene).scene.point.history
tell-adds line.Skip scene first = adds-none scene
tell-adds line.End scene first = adds-none scene
tell-adds line.Unread scene first = adds-none scene
tell-adds (line.Item it) scene first = tell_item-adds it scene first
tell-adds line.NoMemory scene first = adds-none scene

-- ---- causes

-- a cause stays where the history has its earlier entries at their places
caused-later : (lines : List (List ℕ)) (before after : List Entry) (place : ℕ) (happened : Event)
    → ((k : ℕ) (entry : Entry) → slice_get before k ≡ Some entry → slice_get after k ≡ Some entry)
    → IsCaused lines before place happened → IsCaused lines after place happened
caused-later lines before after place (event.Asked request) keeps caused = tt
caused-later lines before after place (event.Begin begins) keeps caused = tt
caused-later lines before after place (event.Done job ends) keeps caused = record {
  front = caused.front;
  text = caused.text;
  more = caused.more;
  parts = caused.parts;
  behind = caused.behind;
  within = caused.within;
  path = caused.path;
  stamp = caused.stamp;
  begun = by (slice_get before job) refl caused.begun;
  why = caused.why;
}
  where
    by : (o : Option Entry) → slice_get before job ≡ o → option_map event_of o ≡ Some (event.Begin (task.Make caused.path caused.stamp))
        → option_map event_of (slice_get after job) ≡ Some (event.Begin (task.Make caused.path caused.stamp))
    by None is begun = absurd cc
    by (Some entry) is begun = ap (λ (o : Option Entry). option_map event_of o) (keeps job entry is) ∙ begun

-- an entry that a line added has its cause in what the lines before it led to
caused-line : (lines front : List (List ℕ)) (text : List ℕ) (more : List (List ℕ)) (history : List Entry) (place : ℕ) (happened : Event)
    → lines ≡ front ++ text ∷ more → length (tell_lines front start).scene.point.history ≤ place
    → place < length (tell_lines (front ++ text ∷ []) start).scene.point.history
    → EndsSo (tell_lines front start).scene history happened → IsCaused lines history place happened
caused-line lines front text more history place (event.Asked request) parts behind within so = tt
caused-line lines front text more history place (event.Begin begins) parts behind within so = tt
caused-line lines front text more history place (event.Done job ends) parts behind within so = record {
  front = front;
  text = text;
  more = more;
  parts = parts;
  behind = behind;
  within = within;
  path = so.path;
  stamp = so.stamp;
  begun = so.begins;
  why = so.why;
}

-- a history stays caused where a line adds to it
caused-adds : (lines front : List (List ℕ)) (text : List ℕ) (more : List (List ℕ)) (history : List Entry) → lines ≡ front ++ text ∷ more
    → (tell_lines (front ++ text ∷ []) start).scene.point.history ≡ history
    → AreCaused lines (tell_lines front start).scene.point.history → Adds (tell_lines front start).scene history → AreCaused lines history
caused-adds lines front text more history parts ends all adds = λ place entry is. by place entry is (adds.each place entry is)
  where
    by : (place : ℕ) (entry : Entry) → slice_get history place ≡ Some entry
        → (slice_get (tell_lines front start).scene.point.history place ≡ Some entry)
        ⊎ ((length (tell_lines front start).scene.point.history ≤ place) × EndsSo (tell_lines front start).scene history entry.event)
        → IsCaused lines history place entry.event
    by place entry is (inl old) =
        caused-later lines (tell_lines front start).scene.point.history history place entry.event adds.keeps (all place entry old)
    by place entry is (inr (behind, so)) =
        caused-line lines front text more history place entry.event parts behind
        (subst (λ (h : List Entry). place < length h) (sym ends) (slice_get_within history place entry is)) so

-- ---- runs

-- from what a front of the lines led to, the rest of them
tell_rest-cause : (lines front more : List (List ℕ)) → lines ≡ front ++ more → AreCaused lines (tell_lines front start).scene.point.history
    → AreCaused lines (tell_lines more (tell_lines front start).scene).scene.point.history
tell_rest-cause lines front [] parts all = all
tell_rest-cause lines front (text ∷ more) parts all =
    let scene : Scene = (tell_lines front start).scene in
    let step : (tell_lines (front ++ text ∷ []) start).scene ≡ (tell (line_of text) scene).scene = tell_scene front (text ∷ []) start in
    let told : AreCaused lines (tell (line_of text) scene).scene.point.history =
    caused-adds lines front text more (tell (line_of text) scene).scene.point.history parts (ap (λ (s : Scene). s.point.history) step) all
    (tell-adds (line_of text) scene (tell_lines-at front start start-at).lawful.first) in
    subst (λ (s : Scene). AreCaused lines (tell_lines more s).scene.point.history) step
    (tell_rest-cause lines (front ++ text ∷ []) more (parts ∙ sym (append_assoc front (text ∷ []) more))
    (subst (λ (s : Scene). AreCaused lines s.point.history) (sym step) told))

-- each make in a run of some lines that failed has its cause among them
pub tell_lines-cause : (lines : List (List ℕ)) → AreCaused lines (tell_lines lines start).scene.point.history
tell_lines-cause lines = tell_rest-cause lines [] lines refl (λ place entry is. absurd cc)

-- a run that is where some lines led has the causes of its history among them
pub run-cause : (lines : List (List ℕ)) (ended : Ended) → IsAt (tell_lines lines start).scene ended → IsCausedBy lines ended.run
run-cause lines ended at = by_run ended.run at.0
  where
    by_run : (run : Option Run) → IfSome run (λ (r : Run). run_at r ≡ (tell_lines lines start).scene.point) → IsCausedBy lines run
    by_run None is = tt
    by_run (Some run) is =
        subst (AreCaused lines) (sym (ap (λ (p : Point). p.history) is)) (tell_lines-cause lines)
