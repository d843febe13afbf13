mod Grants
mod Spans
