use Rattle.std.proofs.Common.{◌≡◌, true, sym, ap, subst, ◌∙◌, ◌≤◌, arith}
use Rattle.std.specs.Prelude.{option_map}
use Rattle.std.specs.FinMap as map
use Rattle.value_core.specs.declared.datum.Datum.TheVariants as datum
use Rattle.value_core.specs.TextOrder.{text_cmp}
use Rattle.value_core.specs.Limits.{most_elements}
use Rattle.value_core.specs.Rows.{as_data, rows_map}
use Rattle.value_core.proofs.Placing.{erased_row}
use Rattle.value_core.proofs.TableRows.{rows_removed}
use Rattle.value_core.proofs.Tables.{has_at, get_at, count_at}
use Rattle.value_core.proofs.Backs.{row_back}
use Rattle.value_core.proofs.rows.Rows.erase.Goals as goal

pub take_out-row-requires : goal.take_out-row-requires
take_out-row-requires c =
    sym (has_at datum.Integer c.in-Integers.all c.args.key.now) ∙ subst (λ r. map.contains_key (rows_map r) c.args.key.now ≡ true) c.in-Integers.is c.requires.there

pub take_out-row-requires-in-Texts : goal.take_out-row-requires-in-Texts
take_out-row-requires-in-Texts c =
    sym (has_at datum.Text c.in-Texts.all c.args.key.now) ∙ subst (λ r. map.contains_key (rows_map r) c.args.key.now ≡ true) c.in-Texts.is c.requires.there

pub returns-in_ok-room-in-Integers-clause-ok : goal.returns-in_ok-room-in-Integers-clause-ok
returns-in_ok-room-in-Integers-clause-ok c =
    rw c.in-Integers.is (ap (λ es. map.from_entries {R = text_cmp} (as_data datum.Integer es)) c.take_out-row.ensures.rows ∙ erased_row datum.Integer c.in-Integers.all c.args.key.now c.take_out-row.ensures.rise)

pub returns-in_ok-room-in-Integers-clause-rows : goal.returns-in_ok-room-in-Integers-clause-rows
returns-in_ok-room-in-Integers-clause-rows c = λ e.
    rw c.in-Integers.is (rows_removed datum.Integer e c.in-Integers.all c.take_out-row.new.self c.args.key.now c.take_out-row.ensures.rise c.take_out-row.ensures.still c.take_out-row.ensures.rows
    (ap (λ es. map.from_entries {R = text_cmp} (as_data datum.Integer es)) c.take_out-row.ensures.rows ∙ erased_row datum.Integer c.in-Integers.all c.args.key.now c.take_out-row.ensures.rise))

pub returns-in_ok-room-in-Integers-clause-back : goal.returns-in_ok-room-in-Integers-clause-back
returns-in_ok-room-in-Integers-clause-back c =
    let few = subst (λ r. map.len (rows_map r) ≤ most_elements) c.in-Integers.is c.requires.few in
    rw c.in-Integers.is (row_back (map.from_entries (as_data datum.Integer c.in-Integers.all)) (map.from_entries (as_data datum.Integer c.take_out-row.new.self)) c.args.key.now c.take_out-row.result.0 (datum.Integer c.take_out-row.result.1) _
    (ap (λ es. map.from_entries {R = text_cmp} (as_data datum.Integer es)) c.take_out-row.ensures.rows ∙ erased_row datum.Integer c.in-Integers.all c.args.key.now c.take_out-row.ensures.rise)
    (get_at datum.Integer c.in-Integers.all c.args.key.now ∙ ap (option_map datum.Integer) c.take_out-row.ensures.value) c.take_out-row.ensures.key (omega (arith, count_at datum.Integer c.in-Integers.all c.len.ensures.rise, c.len.ensures.len, c.in_ok-room-in-Integers.ensures.exact)) few)

pub returns-in_ok-room-in-Texts-clause-ok : goal.returns-in_ok-room-in-Texts-clause-ok
returns-in_ok-room-in-Texts-clause-ok c =
    rw c.in-Texts.is (ap (λ es. map.from_entries {R = text_cmp} (as_data datum.Text es)) c.take_out-row-in-Texts.ensures.rows ∙ erased_row datum.Text c.in-Texts.all c.args.key.now c.take_out-row-in-Texts.ensures.rise)

pub returns-in_ok-room-in-Texts-clause-rows : goal.returns-in_ok-room-in-Texts-clause-rows
returns-in_ok-room-in-Texts-clause-rows c = λ e.
    rw c.in-Texts.is (rows_removed datum.Text e c.in-Texts.all c.take_out-row-in-Texts.new.self c.args.key.now c.take_out-row-in-Texts.ensures.rise c.take_out-row-in-Texts.ensures.still c.take_out-row-in-Texts.ensures.rows
    (ap (λ es. map.from_entries {R = text_cmp} (as_data datum.Text es)) c.take_out-row-in-Texts.ensures.rows ∙ erased_row datum.Text c.in-Texts.all c.args.key.now c.take_out-row-in-Texts.ensures.rise))

pub returns-in_ok-room-in-Texts-clause-back : goal.returns-in_ok-room-in-Texts-clause-back
returns-in_ok-room-in-Texts-clause-back c =
    let few = subst (λ r. map.len (rows_map r) ≤ most_elements) c.in-Texts.is c.requires.few in
    rw c.in-Texts.is (row_back (map.from_entries (as_data datum.Text c.in-Texts.all)) (map.from_entries (as_data datum.Text c.take_out-row-in-Texts.new.self)) c.args.key.now c.take_out-row-in-Texts.result.0 (datum.Text c.take_out-row-in-Texts.result.1) _
    (ap (λ es. map.from_entries {R = text_cmp} (as_data datum.Text es)) c.take_out-row-in-Texts.ensures.rows ∙ erased_row datum.Text c.in-Texts.all c.args.key.now c.take_out-row-in-Texts.ensures.rise)
    (get_at datum.Text c.in-Texts.all c.args.key.now ∙ ap (option_map datum.Text) c.take_out-row-in-Texts.ensures.value) c.take_out-row-in-Texts.ensures.key (omega (arith, count_at datum.Text c.in-Texts.all c.len-in-Texts.ensures.rise, c.len-in-Texts.ensures.len, c.in_ok-room-in-Texts.ensures.exact)) few)
