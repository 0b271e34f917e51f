use Rattle.std.proofs.Common.{rules, false, ◌≡◌, ◌≤◌, ◌∙◌, filter, find, length, map, refl, sym, ap, ap₂, subst, arith}
use Rattle.mat_model.specs.Tickets.{with_hold}
use Rattle.model_laws.specs.TicketRules.{lost_below}
use Rattle.job_book.specs.Jobs.{jobs_of}
use Rattle.row_book.specs.Stocks.{overlaps_stock, stock_at}
use Rattle.mat_core.specs.Falling.{MayAllRemain, with_remains}
use Rattle.mat_core.specs.Replacing.{top_in}
use Rattle.mat_core.proofs.GrantLemmas.{all_earlier}
use Rattle.mat_core.proofs.ReplaceLemmas.{found_put, ruled_book, ruled_remain}
use Rattle.mat_core.proofs.parts.Parts.replace.Goals as goal

pub answer_removed-requires : goal.answer_removed-requires
answer_removed-requires g c =
    all_earlier c.args.number c.args.self.now.tickets.all (ruled_book c.args.number c.args.self.now c.requires.rules).below

pub add_remains-requires-clause-apart : goal.add_remains-requires-clause-apart
add_remains-requires-clause-apart g c =
    subst (λ ss. MayAllRemain false (jobs_of c.args.self.now.jobs) ss c.reserve.new.self.list) (sym c.in-Ok-place.ensures.removed)
    (subst (λ ds. MayAllRemain false (jobs_of c.args.self.now.jobs) (filter (overlaps_stock c.args.stock.row.path) c.args.self.now.rows) ds) (sym c.in-Ok.ensures.list)
    (ruled_remain c.args.number c.args.stock.row.path c.args.self.now c.requires.rules))

pub returns-clause-replaced : goal.returns-clause-replaced
returns-clause-replaced g c = record {
  beside = record { base = refl; first = refl; moment = refl; history = refl; lost = refl; disk = refl; keeper = refl };
  gate = refl;
  rows = c.in-Ok-place.ensures.rows;
  holds = c.in-Ok-place.ensures.holds ∙ ap (λ p. with_hold c.args.command p c.args.self.now.holds) c.requires.path;
  tickets =
      c.answer_removed.ensures c.args.stock
      (ap₂ (λ p ss. find (stock_at p) ss) c.requires.path c.in-Ok-place.ensures.rows ∙ found_put c.args.stock c.args.self.now.rows)
      ∙ ap₂ (λ ss p. map (lost_below (top_in ss p) c.args.stock.row c.args.number) c.args.self.now.tickets.all)
      (c.as_slice.ensures.value ∙ c.in-Ok-place.ensures.removed) c.requires.path;
  debris = c.add_remains.ensures.list
      ∙ ap₂ (λ ss ds. with_remains false (jobs_of c.args.self.now.jobs) ss ds) c.in-Ok-place.ensures.removed c.in-Ok.ensures.list;
  spare =
      let gone : length c.in-Ok-place.removed.items ≡ length (filter (overlaps_stock c.args.stock.row.path) c.args.self.now.rows) =
      ap length c.in-Ok-place.ensures.removed in
      let room : c.args.spare ≤ c.reserve.new.self.spare = search rules in
      let wants = c.requires.spare in
      let left = c.add_remains.ensures.spare in
      omega (arith, gone, room, wants, left);
  jobs = refl;
  kept = refl;
  nodes = refl;
  paths = refl;
}
