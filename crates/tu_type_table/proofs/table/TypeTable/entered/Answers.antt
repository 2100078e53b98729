use Rattle.std.proofs.Common.{◌≡◌, ◌++◌, List, [], ◌∷◌, length, None, sym, ap, ◌∙◌, subst, rules}
use Rattle.tu_type_table.specs.declared.types.Row.{Row}
use Rattle.tu_type_table.specs.Types.{own_or, words_or}
use Rattle.tu_type_table.specs.Index.{IsIndex}
use Rattle.tu_type_table.proofs.Numbering.{found_by_find, new_row, entered_found, entered_new}
use Rattle.tu_type_table.proofs.table.TypeTable.entered.Goals as goal

pub returns-in-Some : goal.returns-in-Some
returns-in-Some c =
    let types = c.args.self.now in
    let tied : IsIndex c.self.inside.index types = subst (IsIndex c.self.inside.index) c.self.view_is c.self.invariant.1 in
    let found = found_by_find types c.args.form c.as_slice.result.now c.find.result (c.find.ensures types tied) (c.as_slice.ensures.value ∙ c.in_ok-key.ensures) in
    entered_found types c.args.home c.args.form c.args.inside c.args.bare c.in-Some.number (found ∙ c.in-Some.is)

pub returns : goal.returns
returns c =
    let types = c.args.self.now in
    let tied : IsIndex c.self.inside.index types = subst (IsIndex c.self.inside.index) c.self.view_is c.self.invariant.1 in
    let found = found_by_find types c.args.form c.as_slice.result.now c.find.result (c.find.ensures types tied) (c.as_slice.ensures.value ∙ c.in_ok-key.ensures) in
    let none : c.find.result ≡ None = c.in_default.is in
    let own : c.len-own.result ≡ length types = search rules in
    let inside : own_or types c.args.inside ≡ c.own_or.result = sym (c.own_or.ensures types own) in
    let bare : own_or types c.args.bare ≡ c.own_or-2.result = sym (c.own_or-2.ensures types own) in
    let words : words_or types c.args.form c.args.bare ≡ c.words_or-words.result =
    ap (λ (ts : List Row). words_or ts c.args.form c.args.bare) (sym (c.deref.ensures.value ∙ c.self.view_is)) ∙ sym c.words_or-words.ensures in
    let row : new_row types c.args.home c.args.form c.args.inside c.args.bare ≡ record { form = c.args.form; home = c.args.home; inside = c.own_or.result; bare = c.own_or-2.result; words = c.words_or-words.result } =
    λ i. record { form = c.args.form; home = c.args.home; inside = inside i; bare = bare i; words = words i } in
    let rows : types ++ new_row types c.args.home c.args.form c.args.inside c.args.bare ∷ [] ≡ c.add.new.rows.items =
    (λ i. sym c.self.view_is i ++ row i ∷ []) ∙ sym c.in_ok-add.ensures.added in
    entered_new types c.args.home c.args.form c.args.inside c.args.bare (found ∙ none) ∙ (λ i. (rows i, sym own i))
