use Rattle.std.proofs.Common.{◌≡◌, ◌+◌, count_by, filter, length, map, false, ap, ap₂, subst, sym, ◌∙◌, arith}
use Rattle.kept_book.specs.Marks.{is_mark_unlisted}
use Rattle.kept_book.proofs.ClearLemmas.{clear_left}
use Rattle.job_book.specs.Jobs.{jobs_of}
use Rattle.mat_model.specs.declared.answers.Answer.TheVariants as answer
use Rattle.model_laws.specs.TicketRules.{answered_below, top_of}
use Rattle.row_book.specs.Stocks.{overlaps_stock, rows_of}
use Rattle.row_book.specs.Whole.{without_stocks}
use Rattle.mat_core.specs.Beginning.{has_no_row}
use Rattle.mat_core.specs.Falling.{MayAllRemain, is_unkept, with_remains}
use Rattle.mat_core.specs.Removing.{gone_marks, taken_at}
use Rattle.mat_core.proofs.OverlapLemmas.{marks_fit, overlap_remain, overlap_stays, overlap_taken, rows_fit}
use Rattle.mat_core.proofs.parts.Parts.clear.Goals as goal

pub overflow_sub-self : goal.overflow_sub-self
overflow_sub-self g c =
    let most = marks_fit _ c.args.path.now c.args.self.now c.requires.rules c.args.listed c.requires.listed in
    let same : c.count_alone.result ≡ count_by (has_no_row c.args.self.now.rows) c.args.listed.kept.items =
    c.count_alone.ensures ∙ ap (count_by (has_no_row c.args.self.now.rows)) c.as_slice.ensures.value in
    omega (arith, most, same)

pub remove_rows-requires-clause-apart : goal.remove_rows-requires-clause-apart
remove_rows-requires-clause-apart g c =
    subst (λ ps. MayAllRemain false (jobs_of c.args.self.now.jobs) (taken_at ps c.args.self.now.rows) c.args.self.now.debris.list)
    (sym c.as_slice-3.ensures.value)
    (overlap_remain _ c.args.path.now c.args.self.now c.requires.rules c.args.listed c.requires.listed)

pub remove_rows-requires-clause-counted : goal.remove_rows-requires-clause-counted
remove_rows-requires-clause-counted g c =
    let most = marks_fit _ c.args.path.now c.args.self.now c.requires.rules c.args.listed c.requires.listed in
    let same : c.count_alone.result ≡ count_by (has_no_row c.args.self.now.rows) c.args.listed.kept.items =
    c.count_alone.ensures ∙ ap (count_by (has_no_row c.args.self.now.rows)) c.as_slice.ensures.value in
    let rows = rows_fit _ c.args.path.now c.args.self.now c.requires.rules c.args.listed c.requires.listed c.remove_all.new.self.marks in
    let taken : count_by (is_unkept c.remove_all.new.self.marks) (taken_at c.as_slice-3.result.now c.args.self.now.rows)
    ≡ count_by (is_unkept c.remove_all.new.self.marks) (taken_at c.args.listed.rows.items c.args.self.now.rows) =
    ap (λ ps. count_by (is_unkept c.remove_all.new.self.marks) (taken_at ps c.args.self.now.rows)) c.as_slice-3.ensures.value in
    omega (arith, most, same, rows, taken)

pub returns : goal.returns
returns g c =
    let is = c.remove_rows.ensures in
    let taken : taken_at c.as_slice-3.result.now c.args.self.now.rows ≡ filter (overlaps_stock c.args.path.now) c.args.self.now.rows =
    ap (λ ps. taken_at ps c.args.self.now.rows) c.as_slice-3.ensures.value
    ∙ overlap_taken _ c.args.path.now c.args.self.now c.requires.rules c.args.listed c.requires.listed in
    record {
      beside = record {
        base = is.beside.base;
        first = is.beside.first;
        moment = is.beside.moment;
        history = is.beside.history;
        lost = is.beside.lost;
        disk = is.beside.disk;
        keeper = is.beside.keeper;
      };
      gate = is.gate;
      holds = is.holds;
      nodes = is.nodes;
      jobs = is.jobs;
      places = ap (λ k. k.reserved) is.kept ∙ c.remove_all.ensures.reserved;
      rows = is.rows ∙ ap (λ ps. without_stocks ps c.args.self.now.rows) c.as_slice-3.ensures.value
          ∙ overlap_stays _ c.args.path.now c.args.self.now c.requires.rules c.args.listed c.requires.listed;
      kept = ap (λ k. k.marks) is.kept ∙ c.remove_all.ensures.marks
          ∙ ap (λ ps. filter (is_mark_unlisted ps) c.args.self.now.kept.marks) (c.as_slice-2.ensures.value ∙ c.requires.listed.kept)
          ∙ clear_left c.args.path.now c.args.self.now.kept.marks;
      tickets = ap (λ t. t.all) is.tickets ∙ c.answer_cleared.ensures
          ∙ ap (λ n. map (answered_below (top_of (rows_of c.args.self.now.rows) c.args.path.now) (c.args.self.now.first + n) answer.Undeclared) c.args.self.now.tickets.all)
          (c.len.ensures ∙ c.args.self.now.history.ok.0);
      debris = is.debris ∙ ap (λ ss. with_remains false (jobs_of c.args.self.now.jobs) ss c.args.self.now.debris.list) taken;
      spare = let room = is.spare in let same = ap length taken in omega (arith, room, same);
      paths =
          let most = marks_fit _ c.args.path.now c.args.self.now c.requires.rules c.args.listed c.requires.listed in
          let alone : c.count_alone.result ≡ count_by (has_no_row c.args.self.now.rows) c.args.listed.kept.items =
          c.count_alone.ensures ∙ ap (count_by (has_no_row c.args.self.now.rows)) c.as_slice.ensures.value in
          let gone : count_by (has_no_row c.args.self.now.rows) c.args.listed.kept.items
          ≡ count_by (has_no_row c.args.self.now.rows) (gone_marks c.args.path.now c.args.self.now.kept.marks) =
          ap (count_by (has_no_row c.args.self.now.rows)) c.requires.listed.kept in
          let marks : c.remove_rows.new.self.kept.marks ≡ c.remove_all.new.self.marks = ap (λ k. k.marks) is.kept in
          let rows : count_by (is_unkept c.remove_rows.new.self.kept.marks) (filter (overlaps_stock c.args.path.now) c.args.self.now.rows)
          ≡ count_by (is_unkept c.remove_all.new.self.marks) (taken_at c.as_slice-3.result.now c.args.self.now.rows) =
          ap₂ (λ ms ss. count_by (is_unkept ms) ss) marks (sym taken) in
          let left = is.paths in
          omega (arith, most, alone, gone, rows, left);
    }
