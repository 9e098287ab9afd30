-- What the lines of a script ask of the servers that they name.
use Rattle.std.specs.Prelude.{ℕ, List, [], Bool, true, false, Option, Some, None, Result, Ok, Err, codes, ◌++◌}
use Rattle.std.specs.Option.{option_map_or}
use Rattle.std.specs.Result.{result_err}
use Rattle.ocm_types.specs.declared.letters.Offer.{Offer}
use Rattle.ocm_types.specs.declared.letters.Notice.{Notice}
use Rattle.ocm_types.specs.declared.letters.Letter.{Letter}
use Rattle.ocm_types.specs.declared.letters.Letter.TheVariants as letters
use Rattle.ocm_entry.specs.declared.asks.Ask.{Ask}
use Rattle.ocm_entry.specs.declared.asks.Ask.TheVariants as asks
use Rattle.ocm_entry.specs.declared.asks.Method.TheVariants as methods
use Rattle.ocm_entry.specs.Proper.{is_proper}
use Rattle.ocm_records.specs.declared.faults.RecordFault.{RecordFault}
use Rattle.ocm_records.specs.declared.faults.RecordFault.TheVariants as faults
use Rattle.ocm_records.specs.Fields.{name_of}
use Rattle.ocm_script.specs.declared.events.Event.{Event}
use Rattle.ocm_script.specs.declared.events.Event.TheVariants as events
use Rattle.ocm_script.specs.Events.{bytes_of}

-- the ask of an offer, and of a notification, whose record is sound
abbrev pub offer_ask : Result Offer RecordFault → Option Ask
offer_ask (Ok offer) = Some (asks.Offer offer)
offer_ask (Err fault) = None

abbrev pub notice_ask : List ℕ → Result Notice RecordFault → Option Ask
notice_ask fresh (Ok notice) = Some (asks.Notice notice fresh)
notice_ask fresh (Err fault) = None

-- the ask of a line, if it is one, to the server that it names
abbrev pub ask_of : Event → Option Ask
ask_of (events.User host name fresh) = Some (asks.AddUser name fresh)
ask_of (events.Local host key cmd) = Some (asks.Local key cmd)
ask_of (events.Dav host secret method path) = Some (asks.Dav secret method path [])
ask_of (events.Put host secret path body) = Some (asks.Dav secret methods.Put path (bytes_of body))
ask_of (events.Carry host secret from to moving overwrite) = Some (asks.Carry secret from to moving overwrite)
ask_of (events.Offer host offer) = offer_ask offer
ask_of (events.Notice host fresh notice) = notice_ask fresh notice
ask_of _ = None

-- the ask of a line, if it is one, is proper
abbrev pub asks_properly : Event → Bool
asks_properly e = option_map_or is_proper (ask_of e) true

-- whether the bytes of a file that is got are shown: a HEAD shows only how many there are
abbrev pub shows_digits : Event → Bool
shows_digits (events.Dav host secret methods.Head path) = false
shows_digits _ = true

-- what is wrong with the record of a line, if it has one
abbrev pub fault_of : Event → Option RecordFault
fault_of (events.Offer host offer) = result_err offer
fault_of (events.Notice host fresh notice) = result_err notice
fault_of _ = None

-- how a transcript shows what is wrong with a record
abbrev pub fault_text : RecordFault → List ℕ
fault_text faults.NotJson = codes "400 not json"
fault_text faults.NotObject = codes "400 not an object"
fault_text (faults.Missing field) = codes "400 missing " ++ name_of field
fault_text (faults.Kind field) = codes "400 wrong kind " ++ name_of field
fault_text (faults.Value field) = codes "400 bad value " ++ name_of field
fault_text (faults.Unsupported field) = codes "501 not supported " ++ name_of field
fault_text faults.NoMemory = codes "500 no memory"
