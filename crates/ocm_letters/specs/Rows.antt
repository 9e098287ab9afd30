use Rattle.std.specs.Prelude.{ℕ, List, Option, Some, None}
use Rattle.ocm_path.specs.Paths.{Segments}
use Rattle.ocm_types.specs.declared.addresses.Address.{Address}
use Rattle.ocm_types.specs.declared.rights.Rights.{Rights}
use Rattle.ocm_entry.specs.declared.rows.Share.{Share}

-- a share of an owner's own command, at this host: the owner's number and name, the path, the guest, what is granted, the secret
abbrev pub own_share_from : List ℕ → ℕ → List ℕ → Segments → Address → Rights → List ℕ → Share
own_share_from host owner owner_name path with perms secret = record {
  owner = owner;
  root = path;
  parent = None;
  with = with;
  sender = record { user = owner_name; host = host };
  secret = secret;
  granted = perms;
  sender_id = None;
  asked = None;
}

-- a share below the one of this number: what is granted, the guest, the id of the request and what it asked for, the secret
abbrev pub child_share_from : ℕ → Share → Rights → Address → List ℕ → Option Rights → List ℕ → Share
child_share_from number parent granted with sender_id asked secret = record {
  owner = parent.owner;
  root = parent.root;
  parent = Some number;
  with = with;
  sender = parent.with;
  secret = secret;
  granted = granted;
  sender_id = Some sender_id;
  asked = asked;
}
