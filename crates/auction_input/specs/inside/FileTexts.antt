-- How the reasons are told for which a file isn't read.
use Rattle.std.specs.Prelude.{ℕ}
use Rattle.auction_input.specs.FileTexts.{refused_at}
use Rattle.auction_input.specs.declared.files.FileFault.TheVariants as fault
use Rattle.auction_input.specs.declared.input.InputFault.{InputFault}
use Rattle.auction_input.specs.declared.input.InputFault.TheVariants as input
use Rattle.auction_input.specs.declared.input.Unread.{Unread}
use Rattle.auction_input.specs.declared.input.Unread.TheVariants as unread

-- a read of the file at a place fails, or the texts are too large together, or memory is short
abbrev pub file_unread : ℕ → InputFault → Unread
file_unread place input.ReadFailed = refused_at place fault.ReadFailed
file_unread place f = unread.Input f
