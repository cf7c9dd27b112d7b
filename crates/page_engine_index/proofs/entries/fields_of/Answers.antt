use Rattle.std.proofs.Common.{None, Some}
use Rattle.page_engine_index.proofs.MatchLemmas.{entry_one, entry_two, entry_last}
use Rattle.page_engine_index.proofs.entries.fields_of.Goals as goal

pub returns-in_err-names : goal.returns-in_err-names
returns-in_err-names c = rw c.from_residual.ensures (entry_one c.args.version c.args.line.now c.requires c.in_err-names.ensures)

pub returns-in_err-section : goal.returns-in_err-section
returns-in_err-section c =
    rw c.from_residual-in_err-section.ensures
    (entry_two c.args.version c.args.line.now c.in_ok-names.names.now c.in_ok-names.rest.now c.requires c.in_ok-names.ensures c.in_err-section.ensures)

pub returns-in_err-description : goal.returns-in_err-description
returns-in_err-description c =
    rw c.from_residual-in_err-description.ensures
    (entry_last c.args.version c.args.line.now c.in_ok-names.names.now c.in_ok-names.rest.now c.in_ok-section.section.now c.in_ok-section.rest.now None c.requires
    c.in_ok-names.ensures c.in_ok-section.ensures c.in_err-description.ensures)

pub returns : goal.returns
returns c =
    entry_last c.args.version c.args.line.now c.in_ok-names.names.now c.in_ok-names.rest.now c.in_ok-section.section.now c.in_ok-section.rest.now
    (Some (c.in_ok-description.description.now, c.in_ok-description.file.now)) c.requires c.in_ok-names.ensures c.in_ok-section.ensures c.in_ok-description.ensures
