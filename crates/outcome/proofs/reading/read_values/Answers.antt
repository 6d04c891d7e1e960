use Rattle.std.proofs.Common.{◌≡◌, ◌∙◌, ℕ, Bool, false, List, [], Option, None, Ok, length, map, unwrap_or, sym, ap, arith, rules}
use Rattle.std.specs.Prelude.{replicate}
use Rattle.std.proofs.lemmas.List.{length-map, take_at}
use Rattle.auction_terms.specs.FirstFault.{first_fault}
use Rattle.auction_terms.specs.Lines.{lines_of}
use Rattle.auction_terms.specs.Stages.{unless}
use Rattle.auction_terms.proofs.FirstFaultFacts.{answers-parsed}
use Rattle.program_rows.specs.Program.{TableColumn}
use Rattle.program_rows.specs.ProgramNames.{column_names}
use Rattle.outcome.specs.Solution.{is_one, is_solution_memory, solution_line_fault}
use Rattle.outcome.specs.inside.Reading.{said_by}
use Rattle.outcome.proofs.SaidFacts.{nothing_said, read_off}
use Rattle.outcome.proofs.ParsedFacts.{unless_fine, fine_unless}
use Rattle.outcome.proofs.reading.read_values.Goals as goal

pub take_lines-requires-clause-sized : goal.take_lines-requires-clause-sized
take_lines-requires-clause-sized c =
    let names = column_names c.args.program.now in
    let count : c.column_count.result ≡ length names = c.column_count.ensures ∙ sym (length-map c.args.program.now.columns (λ (d : TableColumn). d.name)) in
    let keys = sym (ap length c.in_ok-columns.ensures) ∙ length-map c.in_ok-columns.columns.names.keys (λ text. text.now) in
    omega (arith, c.deref_mut.ensures.len, c.in_ok-said.ensures.len, count, keys)

pub take_lines-requires-clause-nothing : goal.take_lines-requires-clause-nothing
take_lines-requires-clause-nothing c =
    let names = column_names c.args.program.now in
    let count : c.column_count.result ≡ length names = c.column_count.ensures ∙ sym (length-map c.args.program.now.columns (λ (d : TableColumn). d.name)) in
    let empty : c.in_ok-said.said.items ≡ replicate c.column_count.result None = search rules in
    c.deref_mut.ensures.value ∙ empty ∙ nothing_said names c.column_count.result count
    ∙ ap (λ (ns : List (List ℕ)). said_by ns []) (sym c.in_ok-columns.ensures)

pub returns-in_err-take_lines : goal.returns-in_err-take_lines
returns-in_err-take_lines c =
    let lines = lines_of c.args.bytes.now in
    let answer = answers-parsed is_solution_memory c.take_lines.result _ (c.take_lines.ensures.answer ∙ ap
    (λ (ns : List (List ℕ)). unless (first_fault (solution_line_fault ns) [] lines) (Ok tt)) c.in_ok-columns.ensures) in
    let refused = rw c.in_err-take_lines.was at answer in
    search rules

pub returns : goal.returns
returns c =
    let names = column_names c.args.program.now in
    let lines = lines_of c.args.bytes.now in
    let parsed = c.in_ok-take_lines.ensures.answer ∙ ap (λ (ns : List (List ℕ)). unless (first_fault (solution_line_fault ns) [] lines) (Ok tt))
    c.in_ok-columns.ensures in
    let fine : first_fault (solution_line_fault names) [] lines ≡ None = fine_unless _ _ _ parsed in
    let size : length c.take_lines.new.said ≡ c.in_ok-said.said.len = omega (arith, c.take_lines.auto.said, c.deref_mut.ensures.len) in
    let said : c.deref.result.now ≡ said_by names lines =
    c.deref.ensures.value ∙ take_at c.take_lines.new.said _ c.in_ok-said.said.len size ∙ c.in_ok-take_lines.ensures.said
    ∙ ap (λ (ns : List (List ℕ)). said_by ns lines) c.in_ok-columns.ensures in
    let read : c.new.result ≡ map (is_one lines) names =
    c.new.ensures ∙ c.in_ok-values_from.ensures ∙ ap (map (λ (o : Option Bool). unwrap_or o false)) said ∙ read_off names lines in
    ap (λ (vs : List Bool). Ok vs) read ∙ unless_fine _ _ fine
