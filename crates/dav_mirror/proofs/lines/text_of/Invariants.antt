use Rattle.std.proofs.Common.{◌≡◌, take, string_bytes}
use Rattle.dav_mirror.specs.Lines.{lines_of}
use Rattle.dav_mirror.proofs.lines.text_of.Given as goal

abbrev pub invariant-loop-file : goal.invariant-loop-file
invariant-loop-file l = string_bytes l.text ≡ lines_of (take l.file-index l.files)
