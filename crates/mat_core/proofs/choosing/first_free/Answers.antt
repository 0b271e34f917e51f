use Rattle.std.proofs.Common.{sym, ◌∙◌, arith}
use Rattle.job_book.specs.Jobs.{jobs_of}
use Rattle.mat_core.proofs.ChoosingLemmas.{from_zero, next_fits, next_found, next_is, next_none, next_passed}
use Rattle.mat_core.proofs.choosing.first_free.Goals as goal

pub tickets-init : goal.tickets-init
tickets-init c = from_zero (jobs_of c.args.jobs.now) c.args.debris.now.list c.args.rows.now c.args.tickets.now.all

pub returns-in-Some-free_row : goal.returns-in-Some-free_row
returns-in-Some-free_row c =
    let next = next_is (jobs_of c.args.jobs.now) c.args.debris.now.list c.args.rows.now c.tickets.from c.in-Some.number c.args.tickets.now.all
    c.are_tickets.ensures.ascending (sym c.in-Some.ensures) in
    sym (next_found (jobs_of c.args.jobs.now) c.args.debris.now.list c.args.rows.now c.tickets.from c.in-Some.number c.args.tickets.now.all
    c.in-Some-free_row.stock.now next c.in-Some-free_row.ensures)
    ∙ c.tickets.invariant

pub overflow_add-from : goal.overflow_add-from
overflow_add-from c =
    let next = next_is (jobs_of c.args.jobs.now) c.args.debris.now.list c.args.rows.now c.tickets.from c.in-Some.number c.args.tickets.now.all
    c.are_tickets.ensures.ascending (sym c.in-Some.ensures) in
    let fits = next_fits (jobs_of c.args.jobs.now) c.args.debris.now.list c.args.rows.now c.tickets.from c.in-Some.number c.args.tickets.now.all
    next c.requires in
    omega (arith, fits)

pub tickets-smaller : goal.tickets-smaller
tickets-smaller c =
    let next = next_is (jobs_of c.args.jobs.now) c.args.debris.now.list c.args.rows.now c.tickets.from c.in-Some.number c.args.tickets.now.all
    c.are_tickets.ensures.ascending (sym c.in-Some.ensures) in
    let fits = next_fits (jobs_of c.args.jobs.now) c.args.debris.now.list c.args.rows.now c.tickets.from c.in-Some.number c.args.tickets.now.all
    next c.requires in
    let least = next.least in omega (arith, fits, least)

pub tickets-preserved : goal.tickets-preserved
tickets-preserved c =
    let next = next_is (jobs_of c.args.jobs.now) c.args.debris.now.list c.args.rows.now c.tickets.from c.in-Some.number c.args.tickets.now.all
    c.are_tickets.ensures.ascending (sym c.in-Some.ensures) in
    next_passed (jobs_of c.args.jobs.now) c.args.debris.now.list c.args.rows.now c.tickets.from c.in-Some.number c.args.tickets.now.all next
    c.in_default-free_row.ensures
    ∙ c.tickets.invariant

pub returns : goal.returns
returns c =
    sym (next_none (jobs_of c.args.jobs.now) c.args.debris.now.list c.args.rows.now c.tickets.from c.args.tickets.now.all (sym c.in_default.ensures))
    ∙ c.tickets.invariant
