use Rattle.std.proofs.Common.{◌≡◌, [], ◌∷◌, ◌++◌, true, not, ◌∙◌, ap}
use Rattle.std.specs.Result.{is_ok}
use Rattle.tp_elements.specs.declared.columns.Row.{Row}
use Rattle.tp_elements.specs.declared.entry.Entry.{Entry}
use Rattle.tp_elements.specs.declared.entry.Reference.{Reference}
use Rattle.tp_elements.specs.Columns.{ColumnsState, entry_of, entries_of}
use Rattle.tp_elements.proofs.Columning.{entries_more}
use Rattle.tp_elements.proofs.columns.Columns.push.Goals as goal

pub returns-clause-items : goal.returns-clause-items
returns-clause-items c =
    let s = c.self.inside in
    let e = c.args.entry in
    let pushed : is_ok c.push.result ≡ true = c.is_err.ensures.negation ∙ ap not c.if-is_err.false in
    let lettered : is_ok c.push-else-is_err.result ≡ true = c.is_err-else-is_err.ensures.negation ∙ ap not c.if-is_err-2.false in
    let row : Row = record { counter = e.counter; author = e.author; after = c.kept_as.result } in
    let rows_is : c.push.new.self.items ≡ s.rows.items ++ row ∷ [] = rw pushed at c.push.ensures.items in
    let chars_is : c.push-else-is_err.new.self.items ≡ s.chars.items ++ e.ch ∷ [] = rw lettered at c.push-else-is_err.ensures.items in
    let entry : Reference → Entry = λ r. record { counter = e.counter; author = e.author; after = r; ch = e.ch } in
    ap (λ z. entries_of z c.push-else-is_err.new.self.items) rows_is
    ∙ ap (entries_of (s.rows.items ++ row ∷ [])) chars_is
    ∙ entries_more s.rows.items s.chars.items row e.ch c.self.invariant
    ∙ ap (λ (v : ColumnsState). v.items ++ entry_of row e.ch ∷ []) c.self.view_is
    ∙ ap (λ r. c.args.self.now.items ++ entry r ∷ []) c.kept_as.ensures
