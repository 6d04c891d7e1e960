use Rattle.std.proofs.Common.{◌≡◌, ◌+◌, length, take}
use Rattle.auction_input.specs.FileCalls.{AreAsked, calls_to_open}
use Rattle.auction_input.specs.FileTexts.{AreRead, AreSound, bytes_in, named_files}
use Rattle.auction_input.specs.declared.input.TheConstants.{INPUT_LIMIT}
use Rattle.auction_input.proofs.input.read_each.Given as goal

-- the texts so far are read, their files were opened one after the other, nothing is wrong with them, and so many bytes may follow
abbrev pub invariant-loop-name : goal.invariant-loop-name
invariant-loop-name g l = record {
  read : AreRead (g.D.Files.shelf l.fn.files).content (named_files (take l.name-index l.fn.names)) (g.I.Read.remaining l.fn.input.reader)
      (g.I.Read.remaining l.input.reader) l.texts.items;
  sound : AreSound 0 (length l.fn.names) l.texts.items;
  fit : bytes_in l.texts.items + l.room ≡ INPUT_LIMIT;
  unfailed : l.input.failures ≡ l.fn.input.failures;
  at : l.place ≡ l.name-index;
  kept : g.D.Files.shelf l.files ≡ g.D.Files.shelf l.fn.files;
  called : AreAsked (calls_to_open (named_files (take l.name-index l.fn.names))) (g.D.Files.calls l.fn.files) (g.D.Files.calls l.files);
}
