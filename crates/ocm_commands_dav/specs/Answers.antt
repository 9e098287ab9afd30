-- What is told of an answer.
use Rattle.std.specs.Prelude.{ℕ, List, [], ◌∷◌, ◌++◌, codes, Result, Ok, Err}
use Rattle.std.specs.Fmt.{decimal}
use Rattle.ocm_davclient.specs.declared.faults.ClientFault.{ClientFault}
use Rattle.ocm_davclient.specs.declared.faults.ClientFault.TheVariants as clients
use Rattle.ocm_commands_dav.specs.declared.ends.End.{End}
use Rattle.ocm_commands_dav.specs.declared.ends.End.TheVariants.{Done, Usage, ReadFault, WriteFault, NoMemory, TooLong, DialFault, BadReply, Status, NoDiscovery}

-- the status with which the program ends
abbrev pub status_of : End → ℕ
status_of Done = 0
status_of Usage = 1
status_of ReadFault = 3
status_of WriteFault = 4
status_of NoMemory = 5
status_of TooLong = 9
status_of DialFault = 13
status_of BadReply = 14
status_of Status = 15
status_of NoDiscovery = 16

-- the end by a fault of the client
abbrev pub end_by : ClientFault → End
end_by clients.DialFault = DialFault
end_by clients.NoDiscovery = NoDiscovery
end_by (clients.BadReply place) = BadReply
end_by (clients.Status code) = Status
end_by clients.NoMemory = NoMemory

-- the end by an answer
abbrev pub end_of : Result (List ℕ) ClientFault → End
end_of (Ok body) = Done
end_of (Err fault) = end_by fault

-- the line that tells another status
abbrev pub status_line : ℕ → List ℕ
status_line code = codes "status " ++ decimal code ++ 10 ∷ []

-- what is written of a fault
abbrev pub fault_text : ClientFault → List ℕ
fault_text clients.DialFault = []
fault_text clients.NoDiscovery = []
fault_text (clients.BadReply place) = []
fault_text (clients.Status code) = status_line code
fault_text clients.NoMemory = []

-- what is written of an answer
abbrev pub text_of : Result (List ℕ) ClientFault → List ℕ
text_of (Ok body) = body
text_of (Err fault) = fault_text fault

-- the end is that of an answer that was told whole: neither of words, nor of a fault of the source or the sink, nor for want
-- of memory
abbrev pub IsTold : End → Type 0
IsTold Done = Unit {0}
IsTold Usage = ⊥
IsTold ReadFault = ⊥
IsTold WriteFault = ⊥
IsTold NoMemory = ⊥
IsTold TooLong = ⊥
IsTold DialFault = Unit {0}
IsTold BadReply = Unit {0}
IsTold Status = Unit {0}
IsTold NoDiscovery = Unit {0}
