-- How a run goes on, line by line, and its text goes out.
use Rattle.std.proofs.Common.{◌≡◌, ◌||◌, ℕ, ◌+◌, ◌-◌, ◌<◌, ◌≤◌, Bool, true, false, cond, nat_lt, List, [], ◌∷◌, ◌++◌, length, take, Option, Some, None, refl, sym, ◌∙◌, ap, subst, arith, append_assoc, length-append, length-take, take_all}
use Rattle.std.proofs.lemmas.Bool.{cond-true, ltb-true, ltb-false, lt-ltb}
use Rattle.std.proofs.lemmas.List.{append-nil, take_at, take-append-le}
use Rattle.std.proofs.Math.Seq.{take-append-add}
use Rattle.mat_io.specs.Answers.{put_failed}
use Rattle.mat_io.specs.Causes.{HasCause, risen}
use Rattle.mat_io.specs.declared.answer.Put.{Put}
use Rattle.mat_io.specs.declared.answer.Put.TheVariants as put
use Rattle.mat_io.specs.Streams.{Grows, GrowsInPart}
use Rattle.buckd.specs.declared.daemon.Daemon.{Daemon}
use Rattle.script_lang.specs.declared.items.Item.{Item}
use Rattle.script_lang.specs.declared.items.Line.{Line}
use Rattle.script_lang.specs.declared.items.Line.TheVariants as line
use Rattle.script_lang.specs.Items.{item_of}
use Rattle.script_lang.specs.Lines.{is_end, is_skipped, item_line, line_limit}
use Rattle.tree_words.specs.Rests.{words_of}
use Rattle.buckd.specs.declared.session.Fed.{Fed}
use Rattle.buckd.specs.declared.session.Fed.TheVariants as fed
use Rattle.buckd.specs.declared.session.Session.{Session}
use Rattle.buckd.specs.Daemon.{scene_of}
use Rattle.buckd.specs.Lines.{Cuts, IsLine, before_end, has_end, last_line, line_of, lines_of, whole_lines}
use Rattle.buckd.specs.Run.{Scene, start, tell, tell_lines}
use Rattle.buckd.specs.Streams.{AnswersInPart, Broke, Ends, Feeds, Flowed, Flows, Served, TellsLine, Stands, answered, ends, fed_failed, gone_to, kept}
use Rattle.buckd.proofs.LineLemmas.{before_cons, before_end_closed, before_end_goes_on, before_end_none, before_end_open, end_is, has_end_append, keep_more, last_more, last_newline, lines_split, whole_go_on, whole_more, whole_newline}

-- ---- lines one after another

pub tell_scene : (lines more : List (List ℕ)) (scene : Scene)
    → (tell_lines (lines ++ more) scene).scene ≡ (tell_lines more (tell_lines lines scene).scene).scene
tell_scene [] more scene = refl
tell_scene (text ∷ lines) more scene = tell_scene lines more (tell (line_of text) scene).scene

pub tell_text : (lines more : List (List ℕ)) (scene : Scene)
    → (tell_lines (lines ++ more) scene).text ≡ (tell_lines lines scene).text ++ (tell_lines more (tell_lines lines scene).scene).text
tell_text [] more scene = refl
tell_text (text ∷ lines) more scene =
    ap (λ (t : List ℕ). (tell (line_of text) scene).text ++ t) (tell_text lines more (tell (line_of text) scene).scene)
    ∙ sym (append_assoc (tell (line_of text) scene).text (tell_lines lines (tell (line_of text) scene).scene).text
    (tell_lines more (tell_lines lines (tell (line_of text) scene).scene).scene).text)

-- ---- what a line says, by as much of it as is kept

long_line : (text : List ℕ) → nat_lt line_limit (length text) ≡ true → line_of text ≡ line.Unread
long_line text e = cond-true (nat_lt line_limit (length text)) line.Unread _ e

pub line_of_kept : (text : List ℕ) → line_of (take kept text) ≡ line_of text
line_of_kept text = by_test (nat_lt line_limit (length text)) refl
  where
    by_test : (t : Bool) → nat_lt line_limit (length text) ≡ t → line_of (take kept text) ≡ line_of text
    by_test true e =
        let long : line_limit < length text = ltb-true _ _ e in
        long_line (take kept text) (lt-ltb _ _ (omega (arith, length-take kept text))) ∙ sym (long_line text e)
    by_test false e = ap line_of (take_all kept text (omega (arith, ltb-false line_limit (length text) e)))

-- a line ends the script exactly where it says so
pub ends_line : (text : List ℕ) → ends (line_of text) ≡ is_end text
ends_line text =
    by_tests (nat_lt line_limit (length text)) (is_skipped text) (is_end text) (item_of 1 (words_of text))
    (λ e. ap (λ (t : List ℕ). nat_lt line_limit (length t)) (end_is text e)) (λ e. ap is_skipped (end_is text e))
  where
    by_tests : (long skipped ended : Bool) (item : Option Item) → (ended ≡ true → long ≡ false) → (ended ≡ true → skipped ≡ false)
        → ends (cond long line.Unread (cond skipped line.Skip (cond ended line.End (item_line item)))) ≡ ended
    by_tests true skipped true item a b = sym (a refl)
    by_tests true skipped false item a b = refl
    by_tests false true true item a b = sym (b refl)
    by_tests false true false item a b = refl
    by_tests false false true item a b = refl
    by_tests false false false None a b = refl
    by_tests false false false (Some it) a b = refl

-- ---- one more line

one_scene : (text : List ℕ) (scene : Scene) → (tell_lines (before_end (text ∷ [])) scene).scene ≡ (tell (line_of text) scene).scene
one_scene text scene = ap (λ (ls : List (List ℕ)). (tell_lines ls scene).scene) (before_cons text []) ∙ by_test (is_end text) refl
  where
    by_test : (t : Bool) → is_end text ≡ t → (tell_lines (cond t [] (text ∷ [])) scene).scene ≡ (tell (line_of text) scene).scene
    by_test true e = sym (ap (λ (l : List ℕ). (tell (line_of l) scene).scene) (end_is text e))
    by_test false e = refl

one_text : (text : List ℕ) (scene : Scene) → (tell_lines (before_end (text ∷ [])) scene).text ≡ (tell (line_of text) scene).text
one_text text scene = ap (λ (ls : List (List ℕ)). (tell_lines ls scene).text) (before_cons text []) ∙ by_test (is_end text) refl
  where
    by_test : (t : Bool) → is_end text ≡ t → (tell_lines (cond t [] (text ∷ [])) scene).text ≡ (tell (line_of text) scene).text
    by_test true e = sym (ap (λ (l : List ℕ). (tell (line_of l) scene).text) (end_is text e))
    by_test false e = append-nil (tell (line_of text) scene).text

answered_scene : (lines : List (List ℕ)) (text : List ℕ) → has_end lines ≡ false
    → (answered (lines ++ text ∷ [])).scene ≡ (tell (line_of text) (answered lines).scene).scene
answered_scene lines text open_ =
    ap (λ (ls : List (List ℕ)). (tell_lines ls start).scene) (before_end_open lines (text ∷ []) open_)
    ∙ tell_scene lines (before_end (text ∷ [])) start
    ∙ one_scene text (tell_lines lines start).scene
    ∙ ap (λ (ls : List (List ℕ)). (tell (line_of text) (tell_lines ls start).scene).scene) (sym (before_end_none lines open_))

answered_text : (lines : List (List ℕ)) (text : List ℕ) → has_end lines ≡ false
    → (answered (lines ++ text ∷ [])).text ≡ (answered lines).text ++ (tell (line_of text) (answered lines).scene).text
answered_text lines text open_ =
    ap (λ (ls : List (List ℕ)). (tell_lines ls start).text) (before_end_open lines (text ∷ []) open_)
    ∙ tell_text lines (before_end (text ∷ [])) start
    ∙ ap (λ (t : List ℕ). (tell_lines lines start).text ++ t) (one_text text (tell_lines lines start).scene)
    ∙ ap (λ (ls : List (List ℕ)). (tell_lines ls start).text ++ (tell (line_of text) (tell_lines ls start).scene).text) (sym (before_end_none lines open_))

has_end_one : (lines : List (List ℕ)) (text : List ℕ) → has_end lines ≡ false → has_end (lines ++ text ∷ []) ≡ is_end text
has_end_one lines text open_ = has_end_append lines (text ∷ []) ∙ by_test (has_end lines) (is_end text) open_
  where
    by_test : (a b : Bool) → a ≡ false → (a || (b || false)) ≡ b
    by_test true b e = absurd cc
    by_test false true e = refl
    by_test false false e = refl

-- ---- text on its way out

flows_more : (before now : Option (List ℕ)) (gathered text more gathered' text' : List ℕ)
    → gathered' ≡ gathered ++ more → text' ≡ text ++ more → Flows before now gathered text → Flows before now gathered' text'
flows_more None now gathered text more gathered' text' g t flows = tt
flows_more (Some out) now gathered text more gathered' text' g t (gone, same, parts) =
    (gone, same, ap (λ (bs : List ℕ). gone ++ bs) g ∙ sym (append_assoc gone gathered more) ∙ ap (λ (bs : List ℕ). bs ++ more) parts ∙ sym t)

-- a front of a text, of which the rest is gathered
pub flows_in_part : (before now : Option (List ℕ)) (gathered text : List ℕ) → Flows before now gathered text → GrowsInPart before now text
flows_in_part None now gathered text flows = (0, omega arith, tt)
flows_in_part (Some out) now gathered text (gone, same, parts) = (
  length gone,
  omega (arith, length-append gone gathered, ap length parts),
  same ∙ ap (λ (bs : List ℕ). Some (out ++ bs)) (sym (ap (take (length gone)) (sym parts) ∙ take_at gone gathered (length gone) refl)),
)

-- a longer text
pub in_part_more : (before now : Option (List ℕ)) (text more all : List ℕ) → all ≡ text ++ more → GrowsInPart before now text → GrowsInPart before now all
in_part_more before now text more all e (k, fits, grows) = (
  k,
  omega (arith, length-append text more, ap length e),
  subst (λ (bs : List ℕ). Grows before now bs) (sym (ap (take k) e ∙ take-append-le k text more fits)) grows,
)

-- what is gathered goes out
pub flows_out : (before mid now : Option (List ℕ)) (gathered text : List ℕ) → Flows before mid gathered text → Grows mid now gathered → Flows before now [] text
flows_out None mid now gathered text flows grows = tt
flows_out (Some out) mid now gathered text (gone, same, parts) grows = (
  gone ++ gathered,
  subst (λ (o : Option (List ℕ)). Grows o now gathered) same grows ∙ ap Some (append_assoc out gone gathered),
  append-nil (gone ++ gathered) ∙ parts,
)

pub flows_broke : (before mid now : Option (List ℕ)) (gathered text : List ℕ) → Flows before mid gathered text → GrowsInPart mid now gathered → GrowsInPart before now text
flows_broke None mid now gathered text flows grows = (0, omega arith, tt)
flows_broke (Some out) mid now gathered text (gone, same, parts) (k, fits, grows) = (
  length gone + k,
  omega (arith, length-append gone gathered, ap length parts),
  subst (λ (o : Option (List ℕ)). Grows o now (take k gathered)) same grows
      ∙ ap Some (append_assoc out gone (take k gathered)
      ∙ ap (λ (bs : List ℕ). out ++ bs) (sym (ap (take (length gone + k)) (sym parts) ∙ take-append-add gone gathered k))),
)

-- text that went out whole
pub flows_whole : (before now : Option (List ℕ)) (gathered text : List ℕ) → gathered ≡ [] → Flows before now gathered text → Grows before now text
flows_whole None now gathered text e flows = tt
flows_whole (Some out) now gathered text e (gone, same, parts) =
    same ∙ ap (λ (bs : List ℕ). Some (out ++ bs)) (sym (append-nil gone) ∙ ap (λ (bs : List ℕ). gone ++ bs) (sym e) ∙ parts)

-- ---- a run

-- one more line was served
pub serves_more : (lines : List (List ℕ)) (text said : List ℕ) (before now : Option (List ℕ)) (old : Session) (new : Session) (ended : Bool)
    → has_end lines ≡ false → line_of said ≡ line_of text → Served lines before now old → TellsLine said old.daemon old.gathered.items new ended
    → Served (lines ++ text ∷ []) before now new
serves_more lines text said before now old new ended open_ same served serves = record {
  scene = serves.scene ∙ ap (λ (l : Line). (tell l (scene_of old.daemon)).scene) same
      ∙ ap (λ (p : Scene). (tell (line_of text) p).scene) served.scene ∙ sym (answered_scene lines text open_);
  text = flows_more before now old.gathered.items (answered lines).text (tell (line_of text) (answered lines).scene).text new.gathered.items
      (answered (lines ++ text ∷ [])).text
      (serves.text ∙ ap (λ (l : Line). old.gathered.items ++ (tell l (scene_of old.daemon)).text) same
      ∙ ap (λ (p : Scene). old.gathered.items ++ (tell (line_of text) p).text) served.scene)
      (answered_text lines text open_) served.text;
}

pub serves_end : (lines : List (List ℕ)) (text said : List ℕ) (old : Daemon) (gathered : List ℕ) (new : Session) (ended : Bool)
    → has_end lines ≡ false → line_of said ≡ line_of text → TellsLine said old gathered new ended → has_end (lines ++ text ∷ []) ≡ ended
serves_end lines text said old gathered new ended open_ same serves =
    has_end_one lines text open_ ∙ sym (ends_line text) ∙ ap ends (sym same) ∙ sym serves.ended

-- ---- longer scripts

-- the lines served of one list begin those of another
pub record Longer (lines longer : List (List ℕ)) : Type 0 where
  pub rest : List (List ℕ)
  pub parts : before_end longer ≡ before_end lines ++ rest

pub longer_read : (read more : List ℕ) → Longer (whole_lines read) (whole_lines (read ++ more))
longer_read read more =
    let next = whole_go_on read more in
    let served = before_end_goes_on (whole_lines read) next.0 in
    record { rest = served.0; parts = ap before_end next.1 ∙ served.1 }

pub longer_all : (read : List ℕ) → Longer (whole_lines read) (lines_of read)
longer_all read =
    let served = before_end_goes_on (whole_lines read) (last_line read ∷ []) in
    record { rest = served.0; parts = ap before_end (lines_split read) ∙ served.1 }

pub longer_same : (lines : List (List ℕ)) → Longer lines lines
longer_same lines = record { rest = []; parts = sym (append-nil (before_end lines)) }

pub part_longer : (lines longer : List (List ℕ)) (before now : Option (List ℕ)) → Longer lines longer → AnswersInPart lines before now → AnswersInPart longer before now
part_longer lines longer before now long part =
    in_part_more before now (answered lines).text (tell_lines long.rest (answered lines).scene).text (answered longer).text
    (ap (λ (ls : List (List ℕ)). (tell_lines ls start).text) long.parts ∙ tell_text (before_end lines) long.rest start) part

pub broke_longer : (lines longer : List (List ℕ)) (before now : Option (List ℕ)) (s : Session) → Longer lines longer → Broke lines before now s → Broke longer before now s
broke_longer lines longer before now s long broke = record {
  front = broke.front;
  more = broke.more ++ long.rest;
  parts = long.parts ∙ ap (λ (ls : List (List ℕ)). ls ++ long.rest) broke.parts ∙ append_assoc broke.front broke.more long.rest;
  scene = broke.scene;
  text = broke.text;
}

pub broke_part : (lines : List (List ℕ)) (before now : Option (List ℕ)) (s : Session) → Broke lines before now s → AnswersInPart lines before now
broke_part lines before now s broke =
    in_part_more before now (tell_lines broke.front start).text (tell_lines broke.more (tell_lines broke.front start).scene).text (answered lines).text
    (ap (λ (ls : List (List ℕ)). (tell_lines ls start).text) broke.parts ∙ tell_text broke.front broke.more start) broke.text

pub served_part : (lines : List (List ℕ)) (before now : Option (List ℕ)) (s : Session) → Served lines before now s → AnswersInPart lines before now
served_part lines before now s served = flows_in_part before now s.gathered.items (answered lines).text served.text

-- a run whose output failed
pub served_broke : (lines : List (List ℕ)) (before mid now : Option (List ℕ)) (old new : Session) → scene_of new.daemon ≡ scene_of old.daemon
    → Served lines before mid old → (Flows before mid old.gathered.items (answered lines).text → GrowsInPart before now (answered lines).text)
    → Broke lines before now new
served_broke lines before mid now old new same served broke = record {
  front = before_end lines;
  more = [];
  parts = sym (append-nil (before_end lines));
  scene = same ∙ served.scene;
  text = broke served.text;
}

-- the same run, with other text gathered
pub served_flows : (lines : List (List ℕ)) (before mid now : Option (List ℕ)) (old new : Session) → scene_of new.daemon ≡ scene_of old.daemon
    → Served lines before mid old → (Flows before mid old.gathered.items (answered lines).text → Flows before now new.gathered.items (answered lines).text)
    → Served lines before now new
served_flows lines before mid now old new same served flows = record { scene = same ∙ served.scene; text = flows served.text }

-- lines that are served as others are
pub served_same : (lines others : List (List ℕ)) (before now : Option (List ℕ)) (s : Session) → before_end others ≡ before_end lines
    → Served lines before now s → Served others before now s
served_same lines others before now s same served = record {
  scene = served.scene ∙ ap (λ (ls : List (List ℕ)). (tell_lines ls start).scene) (sym same);
  text = subst (λ (ls : List (List ℕ)). Flows before now s.gathered.items (tell_lines ls start).text) (sym same) served.text;
}

pub ends_more : (read more : List ℕ) (before now : Option (List ℕ)) (s : Session) → Ends (whole_lines read) before now s → Ends (whole_lines (read ++ more)) before now s
ends_more read more before now s is =
    let next = whole_go_on read more in
    record {
      ended = ap has_end next.1 ∙ has_end_append (whole_lines read) next.0 ∙ ap (λ (t : Bool). t || has_end next.0) is.ended;
      served = served_same (whole_lines read) (whole_lines (read ++ more)) before now s
          (ap before_end next.1 ∙ before_end_closed (whole_lines read) next.0 is.ended) is.served;
    }

-- whether a run goes on
abbrev pub is_going : Fed → Bool
is_going fed.Going = true
is_going fed.Ended = false
is_going fed.Failed = false
is_going fed.NoMemory = false

-- a run that doesn't go on stands the same, whatever comes behind
pub feeds_more : (read more : List ℕ) (before now : Option (List ℕ)) (s : Session) (answer : Fed) → is_going answer ≡ false
    → Feeds read before now s answer → Feeds (read ++ more) before now s answer
feeds_more read more before now s fed.Going over feeds = absurd cc
feeds_more read more before now s fed.Ended over feeds = ends_more read more before now s feeds
feeds_more read more before now s fed.Failed over feeds = broke_longer (whole_lines read) (whole_lines (read ++ more)) before now s (longer_read read more) feeds
feeds_more read more before now s fed.NoMemory over feeds = part_longer (whole_lines read) (whole_lines (read ++ more)) before now (longer_read read more) feeds

-- ---- a session

-- a run that begins
pub stands_new : (out : Option (List ℕ)) (s : Session) → scene_of s.daemon ≡ start → s.gathered.items ≡ [] → s.partial.items ≡ [] → Stands [] out out s
stands_new out s scene gathered partial = record {
  going = refl;
  partial = partial;
  served = record { scene = scene; text = by_out out };
}
  where
    by_out : (out : Option (List ℕ)) → Flows out out s.gathered.items []
    by_out None = tt
    by_out (Some bytes) = ([], ap Some (sym (append-nil bytes)), gathered)

-- a piece of a line is kept
kept_more : (read line partial more : List ℕ) → partial ≡ take kept (last_line read) → more ≡ partial ++ take (kept - length partial) line
    → more ≡ take kept (last_line read ++ line)
kept_more read line partial more is e =
    e ∙ ap (λ (bs : List ℕ). bs ++ take (kept - length bs) line) is ∙ keep_more kept (last_line read) line

pub stands_kept : (read line : List ℕ) (before now : Option (List ℕ)) (old new : Session) → IsLine line
    → scene_of new.daemon ≡ scene_of old.daemon → new.gathered.items ≡ old.gathered.items
    → new.partial.items ≡ old.partial.items ++ take (kept - length old.partial.items) line
    → Stands read before now old → Stands (read ++ line) before now new
stands_kept read line before now old new is scene gathered partial stands = record {
  going = ap has_end (whole_more read line is) ∙ stands.going;
  partial = kept_more read line old.partial.items new.partial.items stands.partial partial ∙ ap (take kept) (sym (last_more read line is));
  served = subst (λ (ls : List (List ℕ)). Served ls before now new) (sym (whole_more read line is))
      (served_flows (whole_lines read) before now now old new scene stands.served
      (λ flows. subst (λ (bs : List ℕ). Flows before now bs (answered (whole_lines read)).text) (sym gathered) flows));
}

pub stands_part : (read more : List ℕ) (before now : Option (List ℕ)) (s : Session) → Stands read before now s → AnswersInPart (whole_lines (read ++ more)) before now
stands_part read more before now s stands =
    part_longer (whole_lines read) (whole_lines (read ++ more)) before now (longer_read read more) (served_part (whole_lines read) before now s stands.served)

-- a line that a newline ends was served
pub record LineServed (read : List ℕ) (before now : Option (List ℕ)) (s : Session) (ended : Bool) : Type 0 where
  pub is : has_end (whole_lines read) ≡ ended
  pub none : last_line read ≡ []
  pub empty : s.partial.items ≡ []
  pub served : Served (whole_lines read) before now s

pub line_served : (read line said : List ℕ) (before now : Option (List ℕ)) (old new : Session) (ended : Bool) → IsLine line
    → said ≡ old.partial.items ++ take (kept - length old.partial.items) line
    → TellsLine said old.daemon old.gathered.items new ended
    → Stands read before now old → LineServed (read ++ (line ++ 10 ∷ [])) before now new ended
line_served read line said before now old new ended is e serves stands =
    let same : line_of said ≡ line_of (last_line read ++ line)
    = ap line_of (kept_more read line old.partial.items said stands.partial e) ∙ line_of_kept (last_line read ++ line) in
    record {
      is = ap has_end (whole_newline read line is) ∙ serves_end (whole_lines read) (last_line read ++ line) said old.daemon old.gathered.items new ended stands.going same serves;
      none = last_newline read line is;
      empty = serves.partial;
      served = subst (λ (ls : List (List ℕ)). Served ls before now new) (sym (whole_newline read line is))
          (serves_more (whole_lines read) (last_line read ++ line) said before now old new ended stands.going same stands.served serves);
    }

pub line_ended : (read : List ℕ) (before now : Option (List ℕ)) (s : Session) → LineServed read before now s true → Ends (whole_lines read) before now s
line_ended read before now s line = record { ended = line.is; served = line.served }

-- text went out behind a line
pub line_flushed : (read : List ℕ) (before mid now : Option (List ℕ)) (old new : Session) (answer : Put)
    → scene_of new.daemon ≡ scene_of old.daemon → new.partial.items ≡ old.partial.items
    → ((from : Option (List ℕ)) (text : List ℕ) → Flows from mid old.gathered.items text → Flowed from now new.gathered.items text answer)
    → LineServed read before mid old false → Feeds read before now new (gone_to answer)
line_flushed read before mid now old new put.All scene partial flows line = record {
  going = line.is;
  partial = partial ∙ line.empty ∙ ap (take kept) (sym line.none);
  served = served_flows (whole_lines read) before mid now old new scene line.served (flows before (answered (whole_lines read)).text);
}
line_flushed read before mid now old new put.Failed scene partial flows line =
    served_broke (whole_lines read) before mid now old new scene line.served (flows before (answered (whole_lines read)).text)
line_flushed read before mid now old new put.NoMemory scene partial flows line = flows before (answered (whole_lines read)).text line.served.text

pub gone_failed : (answer : Put) → fed_failed (gone_to answer) ≡ put_failed answer
gone_failed put.All = refl
gone_failed put.Failed = refl
gone_failed put.NoMemory = refl

-- the last line was served
pub last_served : (read : List ℕ) (before now : Option (List ℕ)) (old new : Session) (ended : Bool)
    → TellsLine old.partial.items old.daemon old.gathered.items new ended → Stands read before now old
    → (has_end (lines_of read) ≡ ended) × Served (lines_of read) before now new
last_served read before now old new ended serves stands =
    let same : line_of old.partial.items ≡ line_of (last_line read) = ap line_of stands.partial ∙ line_of_kept (last_line read) in (
      ap has_end (lines_split read) ∙ serves_end (whole_lines read) (last_line read) old.partial.items old.daemon old.gathered.items new ended stands.going same serves,
      subst (λ (ls : List (List ℕ)). Served ls before now new) (sym (lines_split read))
          (serves_more (whole_lines read) (last_line read) old.partial.items before now old new ended stands.going same stands.served serves),
    )

pub last_part : (read : List ℕ) (before now : Option (List ℕ)) (s : Session) → Stands read before now s → AnswersInPart (lines_of read) before now
last_part read before now s stands = part_longer (whole_lines read) (lines_of read) before now (longer_all read) (served_part (whole_lines read) before now s stands.served)

-- ---- a piece

-- of a piece, what stands before the rest was served
pub record Carried (piece rest : List ℕ) (out now : Option (List ℕ)) (old new : Session) : Type 0 where
  pub done : List ℕ
  pub parts : piece ≡ done ++ rest
  pub stands : (read : List ℕ) (before : Option (List ℕ)) → Stands read before out old → Stands (read ++ done) before now new

pub carried_none : (piece : List ℕ) (out : Option (List ℕ)) (s : Session) → Carried piece piece out out s s
carried_none piece out s = record {
  done = [];
  parts = refl;
  stands = λ read before stands. subst (λ (bs : List ℕ). Stands bs before out s) (sym (append-nil read)) stands;
}

pub carried_more : (piece rest line next : List ℕ) (out mid now : Option (List ℕ)) (old between new : Session)
    → Carried piece rest out mid old between → Cuts rest line next
    → ((read : List ℕ) (before : Option (List ℕ)) → Stands read before mid between → Stands (read ++ (line ++ 10 ∷ [])) before now new)
    → Carried piece next out now old new
carried_more piece rest line next out mid now old between new carried cuts step = record {
  done = carried.done ++ (line ++ 10 ∷ []);
  parts = carried.parts ∙ ap (λ (bs : List ℕ). carried.done ++ bs) cuts.parts ∙ sym (append_assoc carried.done (line ++ 10 ∷ []) next);
  stands = λ read before stands. subst (λ (bs : List ℕ). Stands bs before now new) (append_assoc read carried.done (line ++ 10 ∷ []))
      (step (read ++ carried.done) before (carried.stands read before stands));
}

-- the rest of a piece
pub carried_rest : (piece rest : List ℕ) (out mid now : Option (List ℕ)) (old between new : Session) (answer : Fed)
    → Carried piece rest out mid old between
    → ((read : List ℕ) (before : Option (List ℕ)) → Stands read before mid between → Feeds (read ++ rest) before now new answer)
    → (read : List ℕ) (before : Option (List ℕ)) → Stands read before out old → Feeds (read ++ piece) before now new answer
carried_rest piece rest out mid now old between new answer carried step read before stands =
    subst (λ (bs : List ℕ). Feeds bs before now new answer)
    (append_assoc read carried.done rest ∙ ap (λ (bs : List ℕ). read ++ bs) (sym carried.parts))
    (step (read ++ carried.done) before (carried.stands read before stands))

-- a line of a piece, behind which the run doesn't go on
pub carried_over : (piece rest line next : List ℕ) (out mid now : Option (List ℕ)) (old between new : Session) (answer : Fed) → is_going answer ≡ false
    → Carried piece rest out mid old between → Cuts rest line next
    → ((read : List ℕ) (before : Option (List ℕ)) → Stands read before mid between → Feeds (read ++ (line ++ 10 ∷ [])) before now new answer)
    → (read : List ℕ) (before : Option (List ℕ)) → Stands read before out old → Feeds (read ++ piece) before now new answer
carried_over piece rest line next out mid now old between new answer over carried cuts step =
    carried_rest piece rest out mid now old between new answer carried
    (λ read before stands. subst (λ (bs : List ℕ). Feeds bs before now new answer)
    (append_assoc read (line ++ 10 ∷ []) next ∙ ap (λ (bs : List ℕ). read ++ bs) (sym cuts.parts))
    (feeds_more (read ++ (line ++ 10 ∷ [])) next before now new answer over (step read before stands)))

-- ---- counts of faults

pub cause_after : (before mid now : ℕ) (failed : Bool) → before ≤ mid → HasCause mid now failed → HasCause before now failed
cause_after before mid now failed le cause = record {
  later = omega (arith, cause.later);
  rose = λ yes. let rose : risen mid ≤ now = cause.rose yes in omega arith;
}

pub no_cause : (before now : ℕ) → before ≤ now → HasCause before now false
no_cause before now le = record { later = le; rose = λ yes. absurd cc }
