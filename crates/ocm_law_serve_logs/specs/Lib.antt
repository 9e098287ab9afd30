pub mod ServedLogs
