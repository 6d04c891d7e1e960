use Rattle.std.proofs.Common.{◌≡◌, ◌++◌, ◌∷◌, [], Bool, false, refl, sym, ap, ◌∙◌, get_or, length, arith}
use Rattle.std.specs.Prelude.{bytes_eq, codes, if◌then◌else◌}
use Rattle.std.specs.List.{list_any}
use Rattle.std.proofs.lemmas.Bool.{not-true}
use Rattle.mps_reader.specs.inside.Rows.{names_of}
use Rattle.mps_reader.proofs.RowStepFacts.{no_name, added-free, added-bound, name-at, grown, field-at}
use Rattle.auction_terms.specs.Lines.{bytes_of}
use Rattle.mps_reader.proofs.RowFacts.{tells-free, tells-bound}
use Rattle.mps_reader.proofs.rows.take_row.Goals as goal

pub returns-then-is_word-clause-fit : goal.returns-then-is_word-clause-fit
returns-then-is_word-clause-fit c =
    let name = (get_or c.args.fields.now 1 no_name).now in
    let names = c.in_ok-is_new.ensures.names ∙ ap (λ (b : Bool). if b then names_of c.args.rows.now.names ++ name
    ∷ [] else names_of c.args.rows.now.names) c.if-not-is_new.false in
    let fresh : list_any (bytes_eq name) (names_of c.args.rows.now.names) ≡ false = not-true _ (sym c.in_ok-is_new.ensures.new ∙ c.if-not-is_new.false) in
    added-free c.args.rows.now (record c.args.rows.now { names = c.insert_name.new.names }) c.add_free.new.rows name c.requires.fit names fresh
    c.in_ok-is_new.ensures.distinct (name-at c.args.fields.now 1 (omega arith) c.requires.names) refl refl refl refl c.in_ok-add_free.ensures

pub returns-clause-fit : goal.returns-clause-fit
returns-clause-fit c =
    let name = (get_or c.args.fields.now 1 no_name).now in
    let names = c.in_ok-is_new.ensures.names ∙ ap (λ (b : Bool). if b then names_of c.args.rows.now.names ++ name
    ∷ [] else names_of c.args.rows.now.names) c.if-not-is_new.false in
    let fresh : list_any (bytes_eq name) (names_of c.args.rows.now.names) ≡ false = not-true _ (sym c.in_ok-is_new.ensures.new ∙ c.if-not-is_new.false) in
    added-bound c.args.rows.now (record c.args.rows.now { names = c.insert_name.new.names }) c.add_bound.new.rows
    (get_or c.args.fields.now 0 no_name).now name c.requires.fit names fresh c.in_ok-is_new.ensures.distinct
    (name-at c.args.fields.now 1 (omega arith) c.requires.names) refl refl refl refl c.in_ok-add_bound.ensures

pub returns-then-is_word-clause-grows : goal.returns-then-is_word-clause-grows
returns-then-is_word-clause-grows c = let same = ap (λ rs. length rs.items) c.in_ok-add_free.ensures.rows in omega arith

pub returns-clause-grows : goal.returns-clause-grows
returns-clause-grows c = grown c.add_bound.new.rows.rows.items c.args.rows.now.rows.items _ c.in_ok-add_bound.ensures.rows

pub returns-then-is_word-clause-tells : goal.returns-then-is_word-clause-tells
returns-then-is_word-clause-tells c = λ lines h.
    let names = c.in_ok-is_new.ensures.names ∙ ap (λ (b : Bool). if b then names_of c.args.rows.now.names ++ (get_or c.args.fields.now 1 no_name).now
    ∷ [] else names_of c.args.rows.now.names) c.if-not-is_new.false in
    let free = ap (λ w. bytes_eq w (codes "N")) (field-at c.args.fields.now 0 (omega arith)) ∙ sym c.is_word.ensures ∙ c.if-is_word.true in
    tells-free (bytes_of c.args.fields.now) lines c.args.rows.now (record c.args.rows.now { names = c.insert_name.new.names }) c.add_free.new.rows
    (get_or c.args.fields.now 1 no_name).now free (field-at c.args.fields.now 1 (omega arith)) names refl refl c.in_ok-add_free.ensures h

pub returns-clause-tells : goal.returns-clause-tells
returns-clause-tells c = λ lines h.
    let names = c.in_ok-is_new.ensures.names ∙ ap (λ (b : Bool). if b then names_of c.args.rows.now.names ++ (get_or c.args.fields.now 1 no_name).now
    ∷ [] else names_of c.args.rows.now.names) c.if-not-is_new.false in
    let bound = ap (λ w. bytes_eq w (codes "N")) (field-at c.args.fields.now 0 (omega arith)) ∙ sym c.is_word.ensures ∙ c.if-is_word.false in
    tells-bound (bytes_of c.args.fields.now) lines c.args.rows.now (record c.args.rows.now { names = c.insert_name.new.names }) c.add_bound.new.rows
    (get_or c.args.fields.now 0 no_name).now (get_or c.args.fields.now 1 no_name).now bound (field-at c.args.fields.now 0 (omega arith))
    (field-at c.args.fields.now 1 (omega arith)) names refl refl c.in_ok-add_bound.ensures h
