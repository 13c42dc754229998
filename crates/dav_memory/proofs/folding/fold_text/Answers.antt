use Rattle.std.proofs.Common.{IsAscii, ap, map, subst, sym, ◌∙◌}
use Rattle.std.specs.Char.{to_ascii_lowercase}
use Rattle.dav_memory.proofs.AsciiFolding.{ascii_folds}
use Rattle.dav_memory.proofs.folding.fold_text.Goals as goal

pub returns-then-is_ascii : goal.returns-then-is_ascii
returns-then-is_ascii c =
    let lower = ap (map to_ascii_lowercase) c.as_str-then-is_ascii.ensures.value in
    let ascii = subst IsAscii c.as_str.ensures.value c.if-is_ascii.ensures.cases in
    c.new.ensures ∙ (c.in_ok-to_ascii_lowercase.ensures.ok ∙ (lower ∙ sym (ascii_folds c.args.name.now ascii)))
