-- The lines of a calendar text, and the components that they open and close (RFC 5545 section 3.1).
use Rattle.std.specs.Prelude.{◌==◌, ◌&&◌, ◌||◌, ◌++◌, ◌-◌, ℕ, Bool, false, not, List, [], ◌∷◌, length, take, drop, map, nat_lt, codes, Option, None, Some, if◌then◌else◌}
use Rattle.std.specs.Char.{is_ascii_whitespace, to_ascii_uppercase}
use Rattle.std.specs.List.{position, prefix_len, suffix_len}
use Rattle.std.specs.Str.{bytes_eq}
use Rattle.std.specs.Str.Lines.{lines}
use Rattle.dav_calendar.specs.Trees.{Tree, bare, joined}
use Rattle.dav_calendar.specs.TreeLists.{tree_of}
use Rattle.dav_calendar.specs.declared.component.Component.{Component}
use Rattle.dav_calendar.specs.declared.property.Property.{Property}

-- ---- lines

-- a space or a tab at the front
abbrev pub goes_on : List ℕ → Bool
goes_on [] = false
goes_on (b ∷ bytes) = b == 32 || b == 9

-- A line that begins with a space or a tab continues the line before it, without that character.
abbrev pub unfolded_from : List ℕ → List (List ℕ) → List (List ℕ)
unfolded_from line [] = line ∷ []
unfolded_from line (next ∷ more) =
    if goes_on next then unfolded_from (line ++ drop 1 next) more else line ∷ unfolded_from next more

-- the lines of a text, unfolded, behind an empty one
abbrev pub unfolded : List ℕ → List (List ℕ)
unfolded text = unfolded_from [] (lines text)

-- what follows the first colon outside quotes, where a double quote opens or closes a quoted part
abbrev pub value_from : Bool → List ℕ → Option (List ℕ)
value_from quoted [] = None
value_from quoted (b ∷ bytes) =
    if b == 34 then value_from (not quoted) bytes
    else (if b == 58 && not quoted then Some bytes else value_from quoted bytes)

abbrev pub value_of : List ℕ → Option (List ℕ)
value_of line = value_from false line

abbrev pub capitals : List ℕ → List ℕ
capitals text = map to_ascii_uppercase text

-- what stands before the first semicolon or colon, in ASCII capitals
abbrev pub is_mark : ℕ → Bool
is_mark b = b == 59 || b == 58

abbrev pub before_place : Option ℕ → List ℕ → List ℕ
before_place None line = line
before_place (Some i) line = take i line

abbrev pub before_mark : List ℕ → List ℕ
before_mark line = before_place (position is_mark line) line

abbrev pub name_of : List ℕ → List ℕ
name_of line = capitals (before_mark line)

-- without the ASCII white space at both ends
abbrev pub without_front : List ℕ → List ℕ
without_front text = drop (prefix_len is_ascii_whitespace text) text

abbrev pub without_end : List ℕ → List ℕ
without_end text = take (length text - suffix_len is_ascii_whitespace text) text

-- the name of a component that a value says
abbrev pub component_name : List ℕ → List ℕ
component_name value = capitals (without_end (without_front value))

-- what a line does: nothing where it has no colon; or it opens a component, closes one, or is a property
pub data Said : Type 0 where
  Nothing : Said
  Opens : (name : List ℕ) → Said
  Closes : (name : List ℕ) → Said
  Says : (property : Property) → Said

abbrev pub said_by : List ℕ → Option (List ℕ) → Said
said_by name None = Nothing
said_by name (Some value) =
    if bytes_eq name (codes "BEGIN") then Opens (component_name value)
    else (if bytes_eq name (codes "END") then Closes (component_name value)
    else Says (record { name = name; value = value }))

abbrev pub said : List ℕ → Said
said line = said_by (name_of line) (value_of line)

-- ---- components

-- what is read: the components that stand by themselves, and those that are open, the innermost first
pub record Read : Type 0 where
  pub tops : Tree
  pub live : List Component

abbrev pub fresh : List ℕ → Component
fresh name = record { name = name; properties = []; children = bare }

-- 16 components are open at most
abbrev pub opened : List ℕ → Read → Option Read
opened name r =
    if nat_lt (length r.live) 16 then Some (record { tops = r.tops; live = fresh name ∷ r.live }) else None

-- a component with another one in it, behind those that are there
abbrev pub holding : Component → Component → Component
holding outer c = record {
  name = outer.name;
  properties = outer.properties;
  children = joined outer.children (tree_of (c ∷ []));
}

-- The innermost component is closed, which must have this name. It stands in the one around it, or by itself.
abbrev pub put_in : Tree → Component → List Component → Read
put_in tops c [] = record { tops = joined tops (tree_of (c ∷ [])); live = [] }
put_in tops c (outer ∷ more) = record { tops = tops; live = holding outer c ∷ more }

abbrev pub closed_in : List ℕ → Tree → List Component → Option Read
closed_in name tops [] = None
closed_in name tops (c ∷ more) = if bytes_eq c.name name then Some (put_in tops c more) else None

-- A property is one of the innermost open component. Outside any it is passed over.
abbrev pub property_in : Property → List Component → List Component
property_in p [] = []
property_in p (c ∷ more) =
    record { name = c.name; properties = c.properties ++ p ∷ []; children = c.children } ∷ more

abbrev pub after_said : Said → Read → Option Read
after_said Nothing r = Some r
after_said (Opens name) r = opened name r
after_said (Closes name) r = closed_in name r.tops r.live
after_said (Says p) r = Some (record { tops = r.tops; live = property_in p r.live })

-- what is read after a line more, and after all lines
abbrev pub after_line : List ℕ → Read → Option Read
after_line line r = after_said (said line) r

abbrev pub after_lines : List (List ℕ) → Option Read → Option Read
after_lines lines None = None
after_lines [] (Some r) = Some r
after_lines (line ∷ more) (Some r) = after_lines more (after_line line r)

-- no component stays open
abbrev pub ended_in : Tree → List Component → Option Tree
ended_in tops [] = Some tops
ended_in tops (c ∷ more) = None

abbrev pub ended : Option Read → Option Tree
ended None = None
ended (Some r) = ended_in r.tops r.live

-- the component tree of a text, where it has one
abbrev pub components : List ℕ → Option Tree
components text = ended (after_lines (unfolded text) (Some (record { tops = bare; live = [] })))
