use Rattle.std.proofs.Common.{◌≡◌, ◌++◌, ℕ, List, take}
use Rattle.std.specs.List.{AllZip}
use Rattle.dav_page.specs.Index.{IsRowText}
use Rattle.dav_page.proofs.rows.push_rows.Given as goal

-- a text for each member so far
abbrev pub invariant-loop-member : goal.invariant-loop-member
invariant-loop-member l =
    (rows : List (List ℕ)) × (l.texts.items ≡ l.initial.texts.items ++ rows) × AllZip (IsRowText l.fn.dir) (take l.member-index l.members) rows
