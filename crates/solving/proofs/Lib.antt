mod AuditFacts
