use Rattle.std.proofs.Common.{refl}
use Rattle.auction_input.specs.FileTexts.{unopened}
use Rattle.auction_input.proofs.FileFacts.{file-untaken}
use Rattle.auction_input.proofs.input.read_file.Goals as goal

pub returns-in-Err-clause-unread : goal.returns-in-Err-clause-unread
returns-in-Err-clause-unread g c = λ count left.
    rw c.refused.ensures (unopened c.in-Err.fault c.requires.file c.in-Err.ensures.unopened refl refl)

pub returns-clause-unread : goal.returns-clause-unread
returns-clause-unread g c = λ count left.
    rw c.file_unread.ensures (file-untaken (g.D.Files.shelf c.args.files.now) c.args.name.now c.args.place count c.args.limit c.args.failures.now
    c.read_bytes-read.new.input.failures c.in-Err-read.fault left (g.D.File.Read.remaining c.in-Ok.file)
    (g.D.File.Read.remaining c.read_bytes-read.new.input.reader) c.requires.file c.in-Ok.ensures.content c.in-Err-read.ensures.untaken)
