-- Calls and heads that were read, as what they mean.
use Rattle.desk_book.specs.Calls.{Head, Alone, OfForm, meant}
use Rattle.desk_book.specs.declared.calls.Call.{Call}
use Rattle.desk_book.specs.declared.calls.FormHead.{FormHead}

-- a call by itself
abbrev pub alone : Call → Head
alone call = Alone (meant call)

-- the head of a form
abbrev pub of_form : FormHead → Head
of_form h = OfForm h.who h.over h.salt h.commit h.text_len h.sealed_len
