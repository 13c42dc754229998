-- How the head of an answer is read: as one response head, with its status and its fields (RFC 9112, section 4).
use Rattle.std.specs.Prelude.{ℕ, List, ◌++◌}
use Rattle.std.specs.List.{flat_map}
use Rattle.dav_io.specs.declared.fields.Field.{Field}
use Rattle.dav_model.specs.WellFormed.{Ascend, IsWellFormed}
use Rattle.dav_wire.specs.AnswerHeads.{ReadsAnswer}
use Rattle.dav_wire.specs.Answers.{written_fields}
use Rattle.dav_wire.specs.Chunks.{written}
use Rattle.dav_serving.specs.Exchange.{Exchange, begun_wire_of, framing_of}

-- the fields of an answer as they are written: those of the reply, and what is added of the connection and of chunks
abbrev pub fields_written : Exchange → List Field
fields_written x = written_fields x.closing (framing_of x) x.fields

-- One response head stands at the front of the answer, whatever follows: exactly its status and its fields are read
-- there, and behind it stand the pieces of its body. The names of its fields ascend, and none stands twice.
pub record HasHead (x : Exchange) : Type 0 where
  pub reply : IsWellFormed x.status x.fields
  pub read : (behind : List ℕ) → ReadsAnswer (begun_wire_of x ++ behind) x.status (fields_written x)
      (flat_map (written (framing_of x)) x.pieces ++ behind)
  pub ascend : Ascend (fields_written x)
