pub mod MainLaws
pub mod AuditLaws
