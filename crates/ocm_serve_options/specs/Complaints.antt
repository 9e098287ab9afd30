-- What is wrong with words of `serve`.
use Rattle.std.specs.Prelude.{◌≡◌, ℕ, Bool, true, false, List, codes, is_some}
use Rattle.ocm_texts.specs.Decimal.{decimal_of}
use Rattle.ocm_serve_options.specs.declared.option_names.OptionName.{OptionName}
use Rattle.ocm_serve_options.specs.declared.option_names.OptionName.TheVariants as options
use Rattle.ocm_serve_options.specs.declared.complaints.Complaint.{Complaint}
use Rattle.ocm_serve_options.specs.declared.complaints.Complaint.TheVariants as complaints
use Rattle.ocm_serve_options.specs.Plans.{◌>>=◌, peers_of, read_admin, read_host, workers_of}

-- the word of each option, behind two dashes
abbrev pub option_word : OptionName → List ℕ
option_word options.Host = codes "host"
option_word options.Disk = codes "disk"
option_word options.Admin = codes "admin"
option_word options.AdminFile = codes "admin-file"
option_word options.Listen = codes "listen"
option_word options.Workers = codes "workers"
option_word options.KeyFile = codes "key-file"
option_word options.Connections = codes "connections"
option_word options.Log = codes "log"
option_word options.Existing = codes "existing"
option_word options.Peers = codes "peers"

-- the option has no value
abbrev pub is_flag : OptionName → Bool
is_flag options.Existing = true
is_flag _ = false

-- the option takes this value
abbrev pub is_taken : OptionName → List ℕ → Bool
is_taken options.Host text = is_some (read_host text)
is_taken options.Admin text = is_some (read_admin text)
is_taken options.Workers text = is_some (decimal_of text >>= workers_of)
is_taken options.Connections text = is_some (decimal_of text)
is_taken options.Peers text = is_some (peers_of text)
is_taken _ text = true

-- What a complaint says of a name and of a value is so: no option has the name, the option takes no value, or not this one.
abbrev pub IsSo : Complaint → Type 0
IsSo (complaints.Unknown word) = (option : OptionName) → word.now ≡ option_word option → ⊥
IsSo (complaints.FlagValue option) = is_flag option ≡ true
IsSo (complaints.Value option value) = is_taken option value.now ≡ false
IsSo _ = Unit {0}
