use Rattle.std.proofs.Common.{◌≡◌, ℕ, rules, true}
use Rattle.auction_input.specs.FileTexts.{IsTextUnread, is_standard_input}
use Rattle.auction_input.specs.declared.input.Unread.TheVariants as unread
use Rattle.auction_input.specs.declared.input.Unread.{Unread}
use Rattle.auction_input.proofs.FileFacts.{input-untaken}
use Rattle.auction_input.proofs.StepFacts.{if-err-of}
use Rattle.auction_input.proofs.input.read_named.Goals as goal

pub returns-in_err-read_bytes-clause-unread : goal.returns-in_err-read_bytes-clause-unread
returns-in_err-read_bytes-clause-unread g c =
    let is : is_standard_input c.args.name.now ≡ true = search rules in
    let fault = c.in_err-read_bytes.field-0.0 in
    let left = g.I.Read.remaining c.args.input.now.reader in
    let left' = g.I.Read.remaining c.read_bytes.new.input.reader in
    if-err-of (λ (e : Unread). (count : ℕ) → IsTextUnread (g.D.Files.shelf c.args.files.now) c.args.name.now c.args.place count c.args.limit left left'
    c.args.input.now.failures c.read_bytes.new.input.failures e) c.from_residual.result (unread.Input fault) c.from_residual.ensures.1
    (λ count. input-untaken _ _ _ count _ _ _ fault _ _ is c.in_err-read_bytes.ensures.untaken)
