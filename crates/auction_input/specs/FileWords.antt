-- The words on a file that isn't read, or not written.
use Rattle.std.specs.Prelude.{◌++◌, ℕ, List, codes}
use Rattle.auction_input.specs.declared.files.FileFault.{FileFault}
use Rattle.auction_input.specs.declared.files.FileFault.TheVariants as fault
use Rattle.auction_input.specs.declared.files.FileKind.{FileKind}
use Rattle.auction_input.specs.declared.files.FileKind.TheVariants as kind

-- the words for a kind of file that is not a regular one
abbrev pub kind_words : FileKind → List ℕ
kind_words kind.Folder = codes "a folder"
kind_words kind.Pipe = codes "a named pipe"
kind_words kind.Device = codes "a device"
kind_words kind.Socket = codes "a socket"

-- after the last ones stands the name of another file
abbrev pub fault_words : FileFault → List ℕ
fault_words fault.NotFound = codes "no such file or directory"
fault_words fault.Denied = codes "permission denied"
fault_words fault.Unopened = codes "it can't be opened"
fault_words fault.ReadFailed = codes "read failed"
fault_words (fault.NotRead kind) = codes "it is " ++ (kind_words kind ++ codes ", not a file; to read it as standard input: wdp COMMAND < FILE")
fault_words (fault.NotReplaced kind) = codes "it is " ++ (kind_words kind ++ codes ", and -o would put a file in its place; wdp COMMAND > FILE writes to it")
fault_words fault.ReadOnly = codes "it may not be written"
fault_words fault.DeadLink = codes "it is a link that leads nowhere"
fault_words fault.Unwritten = codes "it can't be written"
fault_words fault.Empty = codes "it is empty"
fault_words fault.NoLineEnd = codes "its last line has no line end, and another file follows"
fault_words fault.OutOfMemory = codes "out of memory"
fault_words fault.ReadToo = codes "it is also an input"
fault_words (fault.ReadAlready n) = codes "it is read already, as "
