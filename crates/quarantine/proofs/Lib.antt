mod Retries
mod Rules
