-- Bodies that are a JSON object with one member.
use Rattle.std.specs.Prelude.{ℕ, List}
use Rattle.serde_json.specs.Data.{Data, string, number, unsigned, object, member, no_members}

abbrev pub one_member : List ℕ → Data → Data
one_member key value = object (member key value no_members)

abbrev pub one_text : List ℕ → List ℕ → Data
one_text key text = one_member key (string text)

abbrev pub one_number : List ℕ → ℕ → Data
one_number key n = one_member key (number (unsigned n))
