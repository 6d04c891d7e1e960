use Rattle.std.proofs.Common.{◌≡◌, map, take}
use Rattle.indexmap.specs.IndexSet.{keys}
use Rattle.auction_input.specs.FileCalls.{AreAsked, look_at}
use Rattle.auction_input.specs.FileLooks.{AreTaken}
use Rattle.auction_input.specs.FileTexts.{named_files}
use Rattle.auction_input.proofs.look.look_at_inputs.Given as goal

-- nothing is found against the files so far, and they were looked at, one after the other
abbrev pub invariant-loop-name : goal.invariant-loop-name
invariant-loop-name g l = record {
  taken : AreTaken (g.D.Files.shelf l.fn.files) (named_files (take l.name-index l.fn.names)) (keys l.seen);
  kept : g.D.Files.shelf l.files ≡ g.D.Files.shelf l.fn.files;
  called : AreAsked (map look_at (named_files (take l.name-index l.fn.names))) (g.D.Files.calls l.fn.files) (g.D.Files.calls l.files);
}
