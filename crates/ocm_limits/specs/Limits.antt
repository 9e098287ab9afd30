-- The limits of the product. Each is refused exactly where the counted thing with this one added would pass the number.
use Rattle.std.specs.Prelude.{ℕ}

-- ---- messages

-- a message's head
abbrev pub most_head_bytes : ℕ
most_head_bytes = 16384

-- the lines of a message's head
abbrev pub most_head_lines : ℕ
most_head_lines = 66

-- the body of a request
abbrev pub most_body_bytes : ℕ
most_body_bytes = 1048576

-- the JSON body of a POST
abbrev pub most_json_bytes : ℕ
most_json_bytes = 65536

-- the body of another server's reply
abbrev pub most_reply_bytes : ℕ
most_reply_bytes = 33554432

-- what an exchange with another server gives back: a reply's body, its head and what frames them
abbrev pub most_exchange_bytes : ℕ
most_exchange_bytes = 33619968

-- the requests that are answered on one connection
abbrev pub most_connection_requests : ℕ
most_connection_requests = 1000

-- the number of the last of them, counted from 0
abbrev pub last_connection_request : ℕ
last_connection_request = 999

-- the threads that serve connections
abbrev pub most_workers : ℕ
most_workers = 64

-- ---- files

-- a file
abbrev pub most_file_bytes : ℕ
most_file_bytes = 1048576

-- all files of a server
abbrev pub most_stored_bytes : ℕ
most_stored_bytes = 268435456

-- the files and collections of a server, the roots of its users aside
abbrev pub most_nodes : ℕ
most_nodes = 65536

-- the files and collections that lie in one collection
abbrev pub most_children : ℕ
most_children = 4096

-- a path as it is read, and a path in an ask
abbrev pub most_asked_path_bytes : ℕ
most_asked_path_bytes = 1024

-- a path that a copy or move makes
abbrev pub most_path_bytes : ℕ
most_path_bytes = 2048

-- ---- tables

-- the users of a server
abbrev pub most_users : ℕ
most_users = 4096

-- the received offers on which one user has not decided
abbrev pub most_pending : ℕ
most_pending = 256

-- the shares of a server, ended ones among them
abbrev pub most_shares : ℕ
most_shares = 65536

-- the received offers of a server
abbrev pub most_records : ℕ
most_records = 65536

-- the requests of a server to share further
abbrev pub most_requests : ℕ
most_requests = 65536

-- the messages of a server that tell changed permissions
abbrev pub most_changes : ℕ
most_changes = 655360

-- the restrictions of shares that a server takes
abbrev pub most_restrictions : ℕ
most_restrictions = 4294967295

-- all messages of a server: two for each share, received offer and request, and those that tell changed permissions.
-- No code refuses here, since the limits above keep the messages within it.
abbrev pub most_messages : ℕ
most_messages = 1048576

-- ---- journals

-- the journal's disk of a running server; an area on it has 536,870,656 bytes
abbrev pub served_disk_bytes : ℕ
served_disk_bytes = 1073741824

-- the journal's disk of a script's server, and an area on it
abbrev pub replayed_disk_bytes : ℕ
replayed_disk_bytes = 67108864

abbrev pub replayed_area_bytes : ℕ
replayed_area_bytes = 33554176

-- ---- inputs

-- a file that is audited, and the journal that an access log is checked against
abbrev pub most_audited_bytes : ℕ
most_audited_bytes = 1073741824

-- the input of a check of access logs: a journal, 8 bytes of its length, and a log
abbrev pub most_logcheck_bytes : ℕ
most_logcheck_bytes = 1090519048

-- a script
abbrev pub most_script_bytes : ℕ
most_script_bytes = 16777216

-- the lines of a script
abbrev pub most_lines : ℕ
most_lines = 100000

-- a line of a script
abbrev pub most_line_bytes : ℕ
most_line_bytes = 4096

-- the servers of a script
abbrev pub most_servers : ℕ
most_servers = 16
