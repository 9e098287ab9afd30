-- The names of fields, and the numbers of faults.
use Rattle.std.specs.Prelude.{ℕ, List, codes, Option, Some, None}
use Rattle.ocm_records.specs.declared.faults.Field.{Field}
use Rattle.ocm_records.specs.declared.faults.Field.TheVariants as fields
use Rattle.ocm_records.specs.declared.faults.RecordFault.{RecordFault}
use Rattle.ocm_records.specs.declared.faults.RecordFault.TheVariants as faults

-- a field's name in its object
abbrev pub name_of : Field → List ℕ
name_of fields.ShareWith = codes "shareWith"
name_of fields.Name = codes "name"
name_of fields.ProviderId = codes "providerId"
name_of fields.Owner = codes "owner"
name_of fields.Sender = codes "sender"
name_of fields.ShareType = codes "shareType"
name_of fields.ResourceType = codes "resourceType"
name_of fields.Protocol = codes "protocol"
name_of fields.Options = codes "options"
name_of fields.Webdav = codes "webdav"
name_of fields.SharedSecret = codes "sharedSecret"
name_of fields.Permissions = codes "permissions"
name_of fields.NotificationType = codes "notificationType"
name_of fields.Notification = codes "notification"
name_of fields.SenderId = codes "senderId"
name_of fields.Serial = codes "serial"
name_of fields.Enabled = codes "enabled"
name_of fields.ApiVersion = codes "apiVersion"
name_of fields.EndPoint = codes "endPoint"
name_of fields.ResourceTypes = codes "resourceTypes"
name_of fields.Protocols = codes "protocols"
name_of fields.Message = codes "message"
name_of fields.ValidationErrors = codes "validationErrors"
name_of fields.Command = codes "command"
name_of fields.Path = codes "path"
name_of fields.With = codes "with"
name_of fields.Number = codes "number"
name_of fields.Until = codes "until"

-- a fault's number
abbrev pub number_of : RecordFault → ℕ
number_of faults.NotJson = 1
number_of faults.NotObject = 2
number_of (faults.Missing field) = 3
number_of (faults.Kind field) = 4
number_of (faults.Value field) = 5
number_of (faults.Unsupported field) = 6
number_of faults.NoMemory = 7

-- the field of a fault
abbrev pub field_of : RecordFault → Option Field
field_of faults.NotJson = None
field_of faults.NotObject = None
field_of (faults.Missing field) = Some field
field_of (faults.Kind field) = Some field
field_of (faults.Value field) = Some field
field_of (faults.Unsupported field) = Some field
field_of faults.NoMemory = None
